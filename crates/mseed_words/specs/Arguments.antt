-- The words of a command line.
use Rattle.std.specs.Prelude.{◌≡◌, ◌<◌, ◌≤◌, ℕ, List, [], length, map, take, slice_index_or, Option, Some, None}
use Rattle.std.specs.Prelude.{Result, Ok, Err, string_bytes}
use Rattle.mseed_words.specs.declared.arguments.CommandLine.{CommandLine}
use Rattle.std.specs.declared.env.FillError.{FillError}
use Rattle.std.specs.declared.env.FillError.TheVariants.{NotPresent, TooLong}

-- what copying the word of a number to the beginning of some room comes to: the word; or there is none, or too little
-- room
abbrev pub IsWordAt : List (List ℕ) → ℕ → Result ℕ FillError → List ℕ → Type 0
IsWordAt words index (Ok size) room = (index < length words) × (take size room ≡ slice_index_or words index [])
IsWordAt words index (Err NotPresent) room = length words ≤ index
IsWordAt words index (Err TooLong) room = length room < length (slice_index_or words index [])

-- the word of a number, or that the words end before it
abbrev pub IsWordOrEnd : List (List ℕ) → ℕ → Option (List ℕ) → Type 0
IsWordOrEnd words index None = length words ≤ index
IsWordOrEnd words index (Some word) = (index < length words) × (word ≡ slice_index_or words index [])

-- the words of a command line, and the texts that stand for them
abbrev pub words_in : CommandLine → List (List ℕ)
words_in line = map (λ word. word.items) line.words.items

abbrev pub texts_in : CommandLine → List (List ℕ)
texts_in line = map (λ text. string_bytes text) line.texts.items
