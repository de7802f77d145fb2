use Rattle.std.proofs.Common.{◌≡◌}
use Rattle.slink_links.proofs.live_tcp.LiveTcp.in_round.Given as goal

abbrev pub invariant-loop-turn : goal.invariant-loop-turn
invariant-loop-turn g l = l.self.log ≡ l.fn.self.log
