use Rattle.std.proofs.Common.{◌<◌, ◌-◌, length}
use Rattle.mseed_repack.proofs.Passed.{IsPassed}
use Rattle.mseed_repack.proofs.places.place_asked.Given as goal

abbrev pub invariant-loop-offset : goal.invariant-loop-offset
invariant-loop-offset g l =
    IsPassed (g.C.Choice.selection l.choice) l.bytes l.offset l.number l.asked × (l.asked < l.finding.number)

abbrev pub decreases-loop-offset : goal.decreases-loop-offset
decreases-loop-offset g l = length l.bytes - l.offset
