use Rattle.std.proofs.Common.{◌≤◌, ◌-◌, length, take}
use Rattle.mseed_join.specs.Joined.{HasNoEnd}
use Rattle.mseed_join.proofs.line_reader.pass_lanes.Given as goal

abbrev pub invariant-loop-at : goal.invariant-loop-at
invariant-loop-at l = (l.at ≤ length l.bytes) × HasNoEnd (take l.at l.bytes)

abbrev pub decreases-loop-at : goal.decreases-loop-at
decreases-loop-at l = length l.bytes - l.at
