use Rattle.std.proofs.Common.{length}
use Rattle.mseed_repack.proofs.Walks.{IsGone, AreReadSo}
use Rattle.mseed_repack.proofs.reading.read_records.Given as goal

abbrev pub invariant-loop-view : goal.invariant-loop-view
invariant-loop-view g l = g.R.Walk.leads l.rest
    × IsGone (AreReadSo l.read.samples l.read.steps l.samples l.steps) (g.R.Walk.left l.fn.records)
    (g.R.Walk.left l.rest)

abbrev pub decreases-loop-view : goal.decreases-loop-view
decreases-loop-view g l = length (g.R.Walk.left l.rest)
