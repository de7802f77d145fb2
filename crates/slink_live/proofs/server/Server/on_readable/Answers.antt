use Rattle.std.proofs.Common.{◌<◌, arith, length}
use Rattle.slink_live.proofs.Slots.{keeps_both, received_moves, turns_keep}
use Rattle.slink_live.proofs.Steps.{reads_from}
use Rattle.slink_live.proofs.Updating.{awake_same, moves_awake}
use Rattle.slink_live.proofs.server.Server.on_readable.Goals as goal

pub receive-requires : goal.receive-requires
receive-requires g c = record {
  within = omega (arith, c.if-slot-len.true, c.len.ensures);
  fits = rw c.feed.ensures (rw (← c.self.view_is) at c.requires).fit;
}

pub update-requires : goal.update-requires
update-requires g c =
    let within : c.args.slot < length c.self.inside.links = omega (arith, c.if-slot-len.true, c.len.ensures) in
    let keeps = turns_keep _ c.args.slot _ (rw (← c.self.view_is) at c.requires) within
    (received_moves _ c.args.slot _ _ _ _ (rw c.feed.ensures at c.receive.ensures.happened)).turns in
    rw c.receive.ensures.is (record { sound = keeps.sound; within = omega (arith, within, keeps.carries.slots) })

pub returns-then-slot-len : goal.returns-then-slot-len
returns-then-slot-len g c =
    let within : c.args.slot < length c.self.inside.links = omega (arith, c.if-slot-len.true, c.len.ensures) in
    let sound = rw (← c.self.view_is) at c.requires in
    let moves = received_moves _ c.args.slot _ _ _ _ (rw c.feed.ensures at c.receive.ensures.happened) in
    rw (← c.self.view_is) (record {
      keeps = keeps_both (turns_keep _ c.args.slot _ sound within moves.turns).carries
          (rw c.receive.ensures.is at c.update.ensures.keeps);
      called = reads_from _ c.args.slot _ _ _ _ _ c.receive.ensures.happened c.update.ensures.closes;
      keeps_awake = moves_awake _ c.args.slot _ sound within moves
          (λ a. rw c.receive.ensures.is at c.update.ensures.updates);
    })

pub returns-else-slot-len-clause-keeps_awake : goal.returns-else-slot-len-clause-keeps_awake
returns-else-slot-len-clause-keeps_awake g c = awake_same
