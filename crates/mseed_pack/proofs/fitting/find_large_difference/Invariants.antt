use Rattle.std.proofs.Common.{◌<◌, ℕ, pos, get_or}
use Rattle.mseed_pack.specs.Fitting.{IsDifferenceOf}
use Rattle.mseed_pack.specs.Stretches.{differences}
use Rattle.mseed_pack.proofs.fitting.find_large_difference.Given as goal

abbrev pub invariant-loop-index : goal.invariant-loop-index
invariant-loop-index l = (k : ℕ) → k < l.index → IsDifferenceOf l.encoding (get_or (differences l.samples) k (pos 0))
