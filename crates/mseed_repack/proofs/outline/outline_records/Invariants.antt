use Rattle.std.proofs.Common.{length}
use Rattle.mseed_repack.proofs.Walks.{AreOutlinedSo, IsGone}
use Rattle.mseed_repack.proofs.outline.outline_records.Given as goal

abbrev pub invariant-loop-view : goal.invariant-loop-view
invariant-loop-view g l = g.R.Walk.leads l.rest
    × IsGone (AreOutlinedSo l.outline.samples l.outline.steps l.outline.nearness l.outline.unpackable l.steps)
    (g.R.Walk.left l.fn.records) (g.R.Walk.left l.rest)

abbrev pub decreases-loop-view : goal.decreases-loop-view
decreases-loop-view g l = length (g.R.Walk.left l.rest)
