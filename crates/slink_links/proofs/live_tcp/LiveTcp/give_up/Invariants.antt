use Rattle.std.proofs.Common.{◌≡◌}
use Rattle.slink_links.proofs.live_tcp.LiveTcp.give_up.Given as goal

abbrev pub invariant-loop-slot : goal.invariant-loop-slot
invariant-loop-slot g l = l.self.log ≡ l.fn.self.log
