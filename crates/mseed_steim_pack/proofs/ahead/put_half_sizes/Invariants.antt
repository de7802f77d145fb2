use Rattle.std.proofs.Common.{◌≡◌, ◌<◌, ℕ, get_or, pos}
use Rattle.mseed_steim.specs.declared.scheme.Scheme.TheVariants.{One}
use Rattle.mseed_steim_pack.specs.private.Ahead.{near_size}
use Rattle.mseed_steim_pack.proofs.ahead.put_half_sizes.Given as goal

abbrev pub invariant-loop-index : goal.invariant-loop-index
invariant-loop-index g l = (i : ℕ) → i < l.index
    → get_or l.sizes i 0 ≡ near_size One (get_or (g.D.Steps.differences l.diffs) i (pos 0))
