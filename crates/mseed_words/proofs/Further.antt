-- The further words behind a command.
use Rattle.std.proofs.Common.{◌≡◌, ◌∙◌, ◌∷◌, [], ℕ, zero, suc, List, None, Option, Some, Bool, true}
use Rattle.std.proofs.Common.{ap, length, map, option_map, refl, slice_get, sym, unwrap_or}
use Rattle.std.specs.Borrow.{Bor}
use Rattle.std.specs.Option.{UnwrapsOrElse, option_copied}
use Rattle.std.specs.Slice.{IsItemAt}
use Rattle.std.proofs.lemmas.Option.{slice_get_past, slice_get_read}
use Rattle.clap.specs.Walk.{Row, Text}
use Rattle.mseed_words.specs.Files.{file_mistake, files_of, takes_files, unless_mistaken}
use Rattle.mseed_words.specs.Found.{further_in}
use Rattle.mseed_words.specs.declared.mistake.Mistake.{Mistake}
use Rattle.mseed_words.specs.declared.request.Request.{Request}

abbrev pub texts_of : Bor (List (Bor Text)) → List Text
texts_of words = map (λ (word : Bor Text). word.now) words.now

-- the further places, where any are given
pub further_is : (found : Option (Bor (List (Bor Text)))) (words : Bor (List (Bor Text)))
    → UnwrapsOrElse found (λ none. none.now ≡ []) words → texts_of words ≡ unwrap_or (option_map texts_of found) []
further_is None words none = ap (map (λ (word : Bor Text). word.now)) none
further_is (Some found) words is = ap texts_of is

-- the further words, where they are to be files
pub all_files : (request : Request) (rows : List Row) (takes : Bool) (found : Option Mistake) (words : List Text)
    → takes ≡ takes_files request → takes ≡ true → words ≡ further_in rows → found ≡ file_mistake words
    → files_of request rows ≡ unless_mistaken found words
all_files request rows takes found words is holds further judged =
    rw (sym is ∙ holds, ← further, ← judged) refl

-- what is lent of a list is the word of that number
item : (words : List (Bor Text)) (i : ℕ) (lent : Option (Bor (Bor Text))) → IsItemAt words i lent
    → option_copied lent ≡ slice_get words i
item words i None is = sym (slice_get_past words i is.3)
item words i (Some word) is = sym (slice_get_read words (length words) i word.now refl is.3.0 is.1)

text_there : (words : List (Bor Text)) (i : ℕ) (word : Bor Text)
    → UnwrapsOrElse (slice_get words i) (λ none. none.now ≡ []) word
    → word.now ≡ unwrap_or (slice_get (map (λ (w : Bor Text). w.now) words) i) []
text_there [] i word is = is
text_there (w ∷ ws) zero word is = ap (λ (b : Bor Text). b.now) is
text_there (w ∷ ws) (suc i) word is = text_there ws i word is

-- the word of a number, and an empty one where there are fewer
pub word_there : (words : List (Bor Text)) (i : ℕ) (lent : Option (Bor (Bor Text))) (found : Option (Bor Text))
    (word : Bor Text) → IsItemAt words i lent → found ≡ option_copied lent
    → UnwrapsOrElse found (λ none. none.now ≡ []) word
    → word.now ≡ unwrap_or (slice_get (map (λ (w : Bor Text). w.now) words) i) []
word_there words i lent found word is same given =
    text_there words i word (rw (same ∙ item words i lent is) at given)
