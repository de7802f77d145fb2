use Rattle.std.proofs.Common.{◌≤◌, length}
use Rattle.mseed_repack.proofs.Passing.{IsPassed}
use Rattle.mseed_repack.proofs.cutting.first_stretch.Given as goal

abbrev pub invariant-loop-index : goal.invariant-loop-index
invariant-loop-index l = record { passed : IsPassed l.views l.stretch l.index; inside : l.index ≤ length l.views }
