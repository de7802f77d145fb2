use Rattle.std.proofs.Common.{◌<◌, ℕ, pos, get_or}
use Rattle.mseed_pack.specs.Fitting.{IsSampleOf}
use Rattle.mseed_pack.proofs.fitting.find_large_sample.Given as goal

abbrev pub invariant-loop-index : goal.invariant-loop-index
invariant-loop-index l = (k : ℕ) → k < l.index → IsSampleOf l.encoding (get_or l.samples k (pos 0))
