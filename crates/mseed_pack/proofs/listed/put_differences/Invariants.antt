use Rattle.std.proofs.Common.{◌≡◌, ◌<◌, ◌+◌, ℕ, pos, get_or}
use Rattle.mseed_pack.specs.Stretches.{differences}
use Rattle.mseed_pack.proofs.listed.put_differences.Given as goal

abbrev pub invariant-loop-index : goal.invariant-loop-index
invariant-loop-index l = (k : ℕ) → k < l.index
    → get_or l.out k (pos 0) ≡ get_or (differences l.samples) (l.first + k) (pos 0)
