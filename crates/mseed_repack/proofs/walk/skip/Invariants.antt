use Rattle.std.proofs.Common.{◌≡◌, drop}
use Rattle.mseed_repack.proofs.walk.skip.Given as goal

abbrev pub invariant-loop-turn : goal.invariant-loop-turn
invariant-loop-turn g l = g.R.Walk.leads l.rest × (g.R.Walk.left l.rest ≡ drop l.turn (g.R.Walk.left l.fn.records))
