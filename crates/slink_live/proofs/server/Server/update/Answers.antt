use Rattle.std.proofs.Common.{None, arith, get_or-set_same, length-set}
use Rattle.slink_live.proofs.Reported.{done_closes, done_keeps, done_updates, updates_after}
use Rattle.slink_live.proofs.Slots.{filled_moves, keeps_both, turns_keep}
use Rattle.slink_live.proofs.server.Server.update.Goals as goal

pub fill-update-requires : goal.fill-update-requires
fill-update-requires g c = record {
  within = rw (← c.self.view_is) at c.requires.within;
  fits = rw c.feed.ensures (rw (← c.self.view_is) at c.requires.sound).fit;
}

pub carry_out-requires : goal.carry_out-requires
carry_out-requires g c =
    let within = rw (← c.self.view_is) at c.requires.within in
    rw c.fill-update.ensures.is
    (omega (arith, within, length-set c.self.inside.links c.args.slot c.fill-update.ensures.link))

pub returns : goal.returns
returns g c =
    let within = rw (← c.self.view_is) at c.requires.within in
    let outcome = rw c.feed.ensures at c.fill-update.ensures.happened in
    let filled = filled_moves _ c.args.slot _ _ _ outcome.0 in
    let keeps = turns_keep _ c.args.slot _ (rw (← c.self.view_is) at c.requires.sound) within filled.turns in
    rw (← c.self.view_is) (record {
      keeps = keeps_both keeps.carries (done_keeps _ c.args.slot c.fill-update.result keeps.sound
          (omega (arith, within, keeps.carries.slots)) (rw c.fill-update.ensures.is at c.carry_out.ensures));
      closes = done_closes _ c.args.slot c.fill-update.result _ c.carry_out.ensures;
      updates = updates_after _ c.args.slot c.fill-update.ensures.link filled.some keeps.carries.serving
          (done_updates _ c.args.slot c.fill-update.ensures.link c.fill-update.result
          (get_or-set_same c.self.inside.links c.args.slot c.fill-update.ensures.link None within)
          (omega (arith, within, keeps.carries.slots)) outcome.1
          (rw c.fill-update.ensures.is at c.carry_out.ensures));
    })
