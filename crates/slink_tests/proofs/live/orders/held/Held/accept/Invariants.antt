use Rattle.std.proofs.Common.{length, ◌-◌, ◌≤◌}
use Rattle.slink_tests.proofs.live.orders.held.Held.accept.Given as goal

abbrev pub invariant-loop-start : goal.invariant-loop-start
invariant-loop-start l = l.start ≤ length l.packets

abbrev pub decreases-loop-start : goal.decreases-loop-start
decreases-loop-start l = length l.packets - l.start
