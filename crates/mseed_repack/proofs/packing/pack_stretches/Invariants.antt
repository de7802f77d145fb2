use Rattle.std.proofs.Common.{drop, length}
use Rattle.mseed_repack.specs.private.Planning.{stretches_by}
use Rattle.mseed_repack.proofs.Planning.{IsPackedSo}
use Rattle.mseed_repack.proofs.packing.pack_stretches.Given as goal

abbrev pub invariant-loop-plan : goal.invariant-loop-plan
invariant-loop-plan g l = g.R.Walk.leads l.rest
    × IsPackedSo l.options (length l.fn.samples) (length l.fn.steps) (stretches_by l.plans (g.R.Walk.left l.fn.records))
    (drop l.plan-index l.plans) (drop l.passed (g.R.Walk.left l.rest)) l.next (g.W.Sink.written l.fn.output)
    (g.W.Sink.written l.output)
