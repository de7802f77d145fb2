-- How words end for which nothing was done.
use Rattle.std.specs.Prelude.{◌≡◌, ℕ, List, [], ◌∷◌, codes, string_bytes}
use Rattle.mseed_stream.specs.Device.{BytesWritten}
use Rattle.mseed_stream.specs.LineWritten.{WritesLine}
use Rattle.mseed_files.specs.InputFiles.{no_memory}
use Rattle.mseed_files.specs.Given.{given_line}
use Rattle.mseed_words.specs.Texts.{IsWordOf}
use Rattle.mseed.specs.Outcome.{ReportsLines}
use Rattle.mseed_words.specs.Mistakes.{after_text, before_text}
use Rattle.mseed_words.specs.declared.mistake.Mistake.{Mistake}
use Rattle.mseed_words.specs.declared.refusal.Refusal.{Refusal}
use Rattle.mseed_words.specs.declared.refusal.Refusal.TheVariants.{Text, NoRequest, Memory as NoMemory}

-- the line for words that ask for nothing that there is
abbrev pub bad_value : List ℕ
bad_value = codes "mseed: bad value\n"

-- the line more, by what is wrong, and what was given: an option with its value, or a word
abbrev pub mistake_line : Mistake → List ℕ → List ℕ
mistake_line mistake given = given_line (before_text mistake) given (after_text mistake)

-- both lines were written. What was given is reported as it was: the word of these for which the text stands.
pub record ReportsMistake (words : List (List ℕ)) (mistake : Mistake) (given : List ℕ) (old new : BytesWritten)
    : Type 0 where
  pub argument : List ℕ
  pub argument_is : IsWordOf words given argument
  pub reported : ReportsLines (bad_value ∷ mistake_line mistake argument ∷ []) old new

-- why the words request nothing: the status, and the lines; the text of a command line that isn't one is that of the
-- refusal
abbrev pub EndsRefused : List (List ℕ) → Refusal → ℕ → BytesWritten → BytesWritten → Type 0
EndsRefused words (Text text) status old new = (status ≡ 3) × WritesLine (string_bytes text) old new
EndsRefused words (NoRequest mistake given) status old new =
    (status ≡ 3) × ReportsMistake words mistake given.now old new
EndsRefused words NoMemory status old new = (status ≡ 2) × WritesLine no_memory old new
