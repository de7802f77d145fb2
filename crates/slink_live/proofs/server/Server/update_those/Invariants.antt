use Rattle.std.proofs.Common.{None, get_or}
use Rattle.slink_live.specs.private.Granting.{LeavesOut}
use Rattle.slink_live.proofs.Updating.{HasUpdated}
use Rattle.slink_live.proofs.server.Server.update_those.Given as goal

abbrev pub invariant-loop-slot : goal.invariant-loop-slot
invariant-loop-slot g l = HasUpdated (λ k. LeavesOut l.places (get_or l.fn.self.links k None)) l.fn.self l.self l.slot
    (g.R.Ready.log l.fn.ready) (g.R.Ready.log l.ready)
