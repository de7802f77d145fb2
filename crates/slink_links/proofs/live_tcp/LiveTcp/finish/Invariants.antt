use Rattle.std.proofs.Common.{◌≡◌}
use Rattle.slink_links.proofs.live_tcp.LiveTcp.finish.Given as goal

abbrev pub invariant-loop-round : goal.invariant-loop-round
invariant-loop-round g l = l.self.log ≡ l.fn.self.log
