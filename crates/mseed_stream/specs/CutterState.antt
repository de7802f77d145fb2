-- What a clause sees of a cutter.
use Rattle.std.specs.Prelude.{ℕ, Bool, List, Option}
use Rattle.mseed_stream.specs.declared.cutter.Ending.{Ending}

-- where the next record begins, the bytes at the buffer's beginning and whether they're a record that was lent, the
-- buffer's length, how often the source was called, and how it ended
pub record CutterState : Type 0 where
  pub offset : ℕ
  pub prefix : List ℕ
  pub is_lent : Bool
  pub room : ℕ
  pub reads : ℕ
  pub answer : Option Ending
