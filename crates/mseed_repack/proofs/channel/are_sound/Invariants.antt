use Rattle.std.proofs.Common.{length}
use Rattle.std.specs.List.{AllByRecursion}
use Rattle.mseed_audit.specs.Follows.{IsSound}
use Rattle.mseed_repack.proofs.Walks.{IsGone}
use Rattle.mseed_repack.proofs.channel.are_sound.Given as goal

abbrev pub invariant-loop-view : goal.invariant-loop-view
invariant-loop-view g l = g.R.Walk.leads l.rest
    × IsGone (AllByRecursion IsSound) (g.R.Walk.left l.fn.records) (g.R.Walk.left l.rest)

abbrev pub decreases-loop-view : goal.decreases-loop-view
decreases-loop-view g l = length (g.R.Walk.left l.rest)
