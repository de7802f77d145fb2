use Rattle.slink_live.proofs.Updating.{HasUpdated}
use Rattle.slink_live.proofs.server.Server.update_all.Given as goal

abbrev pub invariant-loop-slot : goal.invariant-loop-slot
invariant-loop-slot g l =
    HasUpdated (λ k. ⊥) l.fn.self l.self l.slot (g.R.Ready.log l.fn.ready) (g.R.Ready.log l.ready)
