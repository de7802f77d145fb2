use Rattle.std.proofs.Common.{Some, arith, length-set, refl}
use Rattle.slink_live.specs.Happening.{Missed, WantsLinks}
use Rattle.slink_live.specs.Turns.{misses, takes}
use Rattle.slink_live.proofs.Slots.{closes_both, closes_none, closes_one, keeps_both, keeps_one, opened_turns}
use Rattle.slink_live.proofs.Slots.{turns_keep}
use Rattle.slink_live.proofs.Updating.{opens_awake, said_awake}
use Rattle.slink_live.proofs.server.Server.take.Goals as goal

pub update-requires : goal.update-requires
update-requires g c =
    let free = rw (← c.self.view_is) at c.requires.free in
    let new = c.new.ensures in
    rw c.put.ensures (record {
      sound = (turns_keep _ c.args.slot (Some c.new.result) (rw (← c.self.view_is) at c.requires.sound) free.within
          (opened_turns _ c.args.slot _ c.new.result (g.R.Ready.log c.args.ready.now) free.free new.session new.pending
          new.ring (new.fits _))).sound;
      within = omega (arith, free.within, length-set c.self.inside.links c.args.slot (Some c.new.result));
    })

pub returns-then-accept : goal.returns-then-accept
returns-then-accept g c =
    let sound = rw (← c.self.view_is) at c.requires.sound in
    let free = rw (← c.self.view_is) at c.requires.free in
    let new = c.new.ensures in
    let turns = opened_turns c.self.inside.intake.feed c.args.slot _ c.new.result (g.R.Ready.log c.args.ready.now)
    free.free new.session new.pending new.ring (new.fits _) in
    let opened = turns_keep _ c.args.slot (Some c.new.result) sound free.within turns in
    rw (← c.self.view_is) (record {
      keeps = keeps_both opened.carries
          (keeps_both (keeps_one (WantsLinks c.wants_links.result) refl (λ k. refl) opened.sound).carries
          (rw (c.wants_links-then-accept.ensures.log, c.if-accept.ensures.log, c.put.ensures)
          at c.update.ensures.keeps));
      called = takes c.args.slot (rw (← c.self.view_is) at c.requires.reads) free
          (closes_both (closes_one (WantsLinks c.wants_links.result) tt)
          (rw (c.wants_links-then-accept.ensures.log, c.if-accept.ensures.log) at c.update.ensures.closes));
      keeps_awake = opens_awake _ c.args.slot (Some c.new.result) sound free.within turns
          (rw (c.wants_links-then-accept.ensures.log, c.if-accept.ensures.log, c.wants_links.ensures, c.put.ensures)
          at c.update.ensures.updates);
    })

pub returns-else-accept : goal.returns-else-accept
returns-else-accept g c = rw c.if-accept.ensures.log (record {
  keeps = keeps_one (Missed c.args.slot) refl (λ k. refl) c.requires.sound;
  called = misses c.args.slot c.requires.reads c.requires.free closes_none;
  keeps_awake = said_awake _ _ (Missed c.args.slot) (λ k w. refl) (λ b. refl) (λ w. w) (λ start. tt);
})
