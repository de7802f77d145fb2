use Rattle.std.proofs.Common.{◌≡◌, ℕ, ◌+◌, ◌-◌, ◌++◌, take, length}
use Rattle.std.specs.Prelude.{min}
use Rattle.mseed_steim.specs.private.Digits.{digits}
use Rattle.mseed_steim.specs.private.Unpacked.{Unpacks}
use Rattle.mseed_steim.proofs.unpack.spread.Given as goal

abbrev pub invariant-loop-lane : goal.invariant-loop-lane
invariant-loop-lane l = record {
  long : length l.differences ≡ length l.fn.differences;
  so_far : (width : ℕ) → Unpacks l.by.count width l.by
      → take (l.at + min l.lane l.by.count) l.differences ++ digits width l.word (l.by.count - l.lane)
      ≡ take l.at l.fn.differences ++ digits width l.word l.by.count;
}
