use Rattle.std.proofs.Common.{◌≡◌, ◌≤◌, length}
use Rattle.mseed_repack.proofs.Planning.{ArePlannedUpTo, CanGoOn}
use Rattle.mseed_repack.proofs.packability.fit_stretches.Given as goal

abbrev pub invariant-loop-count : goal.invariant-loop-count
invariant-loop-count g l =
    g.R.Walk.leads l.rest × g.R.Walk.leads l.after × (g.R.Walk.left l.rest ≡ g.R.Walk.left l.after)
    × ArePlannedUpTo l.options (length l.samples.items) (length l.fn.steps) l.plans.items (g.R.Walk.left l.fn.records)
    (g.R.Walk.left l.after)
    × CanGoOn (length l.fn.steps) (g.R.Walk.left l.after) × (length l.fn.samples.items ≤ length l.samples.items)

abbrev pub decreases-loop-count : goal.decreases-loop-count
decreases-loop-count g l = length (g.R.Walk.left l.after)
