-- What is left of a payload's differences.
use Rattle.std.specs.Prelude.{ℕ, ◌+◌, ◌*◌, List, length, ℤ, Result}
use Rattle.mseed_steim.specs.declared.differences.BadWordAt.{BadWordAt}
use Rattle.mseed_steim.specs.Frames.{DataWord}

-- the items to come, those of them that are unpacked, and the words that aren't
pub record RemainingDifferences : Type 0 where
  pub items : List (Result ℤ BadWordAt)
  pub ready : List ℤ
  pub words : List DataWord

-- how many items there are at the most: a word has seven differences at the most
abbrev pub most_left : RemainingDifferences → ℕ
most_left left = length left.ready + 7 * length left.words
