use Rattle.std.proofs.Common.{◌<◌, None, arith, get_or-set_same, length, refl}
use Rattle.slink_live.proofs.Slots.{keeps_both, taken_moves, turns_keep}
use Rattle.slink_live.proofs.Steps.{writes_to}
use Rattle.slink_live.proofs.Updating.{awake_same, if_rested, moves_awake}
use Rattle.slink_live.proofs.server.Server.on_writable.Goals as goal

pub update-requires : goal.update-requires
update-requires g c =
    let within : c.args.slot < length c.self.inside.links = omega (arith, c.if-slot-len.true, c.len.ensures) in
    let keeps = turns_keep _ c.args.slot _ (rw (← c.self.view_is) at c.requires) within
    (taken_moves _ c.args.slot _ _ _ _ c.send.ensures.taken.happened).turns in
    rw c.send.ensures.taken.is (record { sound = keeps.sound; within = omega (arith, within, keeps.carries.slots) })

pub update_at_rest-requires : goal.update_at_rest-requires
update_at_rest-requires g c =
    let within : c.args.slot < length c.self.inside.links = omega (arith, c.if-slot-len.true, c.len.ensures) in
    let keeps = turns_keep _ c.args.slot _ (rw (← c.self.view_is) at c.requires) within
    (taken_moves _ c.args.slot _ _ _ _ c.send.ensures.taken.happened).turns in
    rw c.send.ensures.taken.is (record { sound = keeps.sound; within = omega (arith, within, keeps.carries.slots) })

pub returns-then-send : goal.returns-then-send
returns-then-send g c =
    let within : c.args.slot < length c.self.inside.links = omega (arith, c.if-slot-len.true, c.len.ensures) in
    let sound = rw (← c.self.view_is) at c.requires in
    let moves = taken_moves _ c.args.slot _ _ _ _ c.send.ensures.taken.happened in
    rw (← c.self.view_is) (record {
      keeps = keeps_both (turns_keep _ c.args.slot _ sound within moves.turns).carries
          (rw c.send.ensures.taken.is at c.update_at_rest.ensures.keeps);
      called = writes_to c.args.slot _ _ _ _ _ c.send.ensures.taken.happened c.update_at_rest.ensures.closes;
      keeps_awake = moves_awake _ c.args.slot _ sound within moves
          (λ a. (rw c.send.ensures.taken.is at c.update_at_rest.ensures.updates)
          (rw (get_or-set_same c.self.inside.links c.args.slot c.send.ensures.taken.link None within)
          (if_rested _ c.args.slot _ _ _ _ a refl c.send.ensures.taken.happened c.if-send.ensures.rests)));
    })

pub returns-else-send : goal.returns-else-send
returns-else-send g c =
    let within : c.args.slot < length c.self.inside.links = omega (arith, c.if-slot-len.true, c.len.ensures) in
    let sound = rw (← c.self.view_is) at c.requires in
    let moves = taken_moves _ c.args.slot _ _ _ _ c.send.ensures.taken.happened in
    rw (← c.self.view_is) (record {
      keeps = keeps_both (turns_keep _ c.args.slot _ sound within moves.turns).carries
          (rw c.send.ensures.taken.is at c.update.ensures.keeps);
      called = writes_to c.args.slot _ _ _ _ _ c.send.ensures.taken.happened c.update.ensures.closes;
      keeps_awake = moves_awake _ c.args.slot _ sound within moves
          (λ a. rw c.send.ensures.taken.is at c.update.ensures.updates);
    })

pub returns-else-slot-len-clause-keeps_awake : goal.returns-else-slot-len-clause-keeps_awake
returns-else-slot-len-clause-keeps_awake g c = awake_same
