use Rattle.std.proofs.Common.{false, refl}
use Rattle.slink_live.specs.Happening.{WantsLinks}
use Rattle.slink_live.proofs.Slots.{closes_both, closes_one, keeps_both}
use Rattle.slink_live.proofs.Updating.{leaves_awake, leaves_keep}
use Rattle.slink_live.proofs.server.Server.end.Goals as goal

pub update_all-requires : goal.update_all-requires
update_all-requires g c = rw (← c.self.view_is) at c.requires

pub returns : goal.returns
returns g c = rw (← c.self.view_is) (
    let sound = rw (← c.self.view_is) at c.requires in
    let all = rw (c.wants_links.ensures.log, c.leave_input.ensures.log) at c.update_all.ensures in
    record {
      keeps = keeps_both (leaves_keep _ _ sound).carries all.keeps;
      leaves = closes_both (closes_one (WantsLinks false) tt) all.closes;
      keeps_awake = leaves_awake _ _ _ _ sound refl all.keeps_awake;
    })
