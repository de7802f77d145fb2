use Rattle.slink_live.proofs.Goes.{HasServed}
use Rattle.slink_live.proofs.server.Server.serve.Given as goal

abbrev pub invariant-loop-turn : goal.invariant-loop-turn
invariant-loop-turn g l = HasServed l.fn.self l.self (g.R.Ready.log l.fn.ready) (g.R.Ready.log l.ready) l.turn
