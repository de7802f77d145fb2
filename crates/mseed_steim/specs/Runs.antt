-- What a run of data words spells.
use Rattle.std.specs.Prelude.{◌≡◌, ℕ, List, [], ◌∷◌, ◌++◌, map, ℤ, Result, Ok, Err}
use Rattle.mseed_steim.specs.declared.scheme.Scheme.{Scheme}
use Rattle.mseed_steim.specs.declared.differences.BadWordAt.{BadWordAt}
use Rattle.mseed_steim.specs.Spelling.{Spells, SpellsNone}
use Rattle.mseed_steim.specs.Frames.{DataWord}

-- the differences are the join of some lists, one for each word, each spelled by it
abbrev pub SpellsRun : Scheme → List DataWord → List ℤ → Type 0
SpellsRun scheme [] ds = ds ≡ []
SpellsRun scheme (w ∷ ws) ds =
    (first : List ℤ) × ((rest : List ℤ)
    × ((ds ≡ first ++ rest) × (Spells scheme w.code w.bits first × SpellsRun scheme ws rest)))

-- where a bad word stands
abbrev pub place_of : DataWord → BadWordAt
place_of w = record { frame = w.frame; word = w.place }

-- a word at a place
abbrev pub word_of : BadWordAt → ℕ → ℕ → DataWord
word_of at code bits = record { frame = at.frame; place = at.word; code = code; bits = bits }

-- The words give all differences that they spell; or, where one of them spells nothing, those of the
-- words before it, and then its place.
pub data Gives (scheme : Scheme) (words : List DataWord) (items : List (Result ℤ BadWordAt)) : Type 0 where
  all : (ds : List ℤ) → SpellsRun scheme words ds → items ≡ map Ok ds → Gives scheme words items
  broken : (before : List DataWord) (bad : DataWord) (after : List DataWord) (ds : List ℤ)
      → words ≡ before ++ bad ∷ after
      → SpellsRun scheme before ds → SpellsNone scheme bad.code bad.bits → items ≡ map Ok ds ++ Err (place_of bad) ∷ []
      → Gives scheme words items
