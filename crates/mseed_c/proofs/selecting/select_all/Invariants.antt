use Rattle.std.proofs.Common.{◌-◌, length}
use Rattle.mseed_select.specs.Selecting.{selection_of}
use Rattle.mseed_c.specs.private.Copied.{IsSoFar}
use Rattle.mseed_c.proofs.selecting.select_all.Given as goal

abbrev pub invariant-loop-reported : goal.invariant-loop-reported
invariant-loop-reported l = IsSoFar (selection_of l.selector) l.bytes l.fn.room l.room l.reported

abbrev pub decreases-loop-reported : goal.decreases-loop-reported
decreases-loop-reported l = length l.bytes - l.reported.offset
