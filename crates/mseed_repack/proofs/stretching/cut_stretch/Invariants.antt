use Rattle.std.proofs.Common.{◌≡◌, length}
use Rattle.mseed_repack.proofs.CutStretches.{IsCutSo}
use Rattle.mseed_repack.proofs.stretching.cut_stretch.Given as goal

abbrev pub invariant-loop-view : goal.invariant-loop-view
invariant-loop-view g l =
    g.R.Walk.leads l.rest × g.R.Walk.leads l.records × (g.R.Walk.left l.records ≡ g.R.Walk.left l.rest)
    × IsCutSo (g.R.Walk.left l.fn.records) (g.R.Walk.left l.rest) l.stretch

abbrev pub decreases-loop-view : goal.decreases-loop-view
decreases-loop-view g l = length (g.R.Walk.left l.rest)
