use Rattle.std.proofs.Common.{None, ap, arith, get_or, length, subst}
use Rattle.slink_live.specs.Served.{ServerState}
use Rattle.slink_live.specs.private.Granting.{LeavesOut}
use Rattle.slink_live.proofs.Updating.{updated_awake, updated_more, updated_none, updated_past}
use Rattle.slink_live.proofs.server.Server.update_those.Goals as goal
use Rattle.slink_live.proofs.server.Server.update_those.Goals.{then-waits_for, else-waits_for}

pub loop-slot-init : goal.loop-slot-init
loop-slot-init g c = updated_none c.requires

pub update-requires : goal.update-requires
update-requires g c =
    let keeps = c.loop-slot.invariant.keeps in
    let count = ap (λ (s : ServerState). length s.links) c.self.view_is in
    record {
      sound = keeps.sound;
      within = omega (arith, c.loop-slot-test.true, c.len-slot-end.ensures, keeps.carries.slots, count);
    }

pub returns-clause-keeps_awake : goal.returns-clause-keeps_awake
returns-clause-keeps_awake g c =
    let count = ap (λ (s : ServerState). length s.links) c.self.view_is in
    record {
      awake = λ but. updated_awake c.loop-slot.invariant
          (omega (arith, c.loop-slot-test.false, c.len-slot-end.ensures, count)) but.is_reported but.each;
      closed = λ start v but. c.loop-slot.invariant.closed start v but.is_reported;
    }

pub loop-slot-preserved : goal.loop-slot-preserved
loop-slot-preserved g c = elim c.if-waits_for.branch [
  | then-waits_for w ↦ rw (w.self-is, w.ready-is)
      (updated_more c.loop-slot.invariant w.update.ensures.keeps w.update.ensures.closes w.update.ensures.updates)
  | else-waits_for w ↦ rw (w.self-is, w.ready-is) (updated_past c.loop-slot.invariant
      (subst (LeavesOut c.args.places) (c.loop-slot.invariant.rest c.loop-slot.slot (omega arith))
      (subst (λ (x : ServerState). LeavesOut c.args.places (get_or x.links c.loop-slot.slot None))
      c.self-in-loop-slot.view_is w.if-waits_for.ensures)))
]
