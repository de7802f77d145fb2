use Rattle.std.proofs.Common.{refl}
use Rattle.slink_live.proofs.Reported.{done_closes, done_keeps, done_updates}
use Rattle.slink_live.proofs.server.Server.update_at_rest.Goals as goal

pub returns : goal.returns
returns g c = record {
  keeps = done_keeps _ c.args.slot c.look-update.result c.requires.sound c.requires.within c.carry_out.ensures;
  closes = done_closes _ c.args.slot c.look-update.result _ c.carry_out.ensures;
  updates = rw (← c.self.view_is) (λ rested. done_updates _ c.args.slot _ c.look-update.result refl
      (rw (← c.self.view_is) at c.requires.within) (c.look-update.ensures _ rested)
      (rw (← c.self.view_is) at c.carry_out.ensures));
}
