use Rattle.std.proofs.Common.{ap, arith, length}
use Rattle.slink_live.specs.Served.{ServerState}
use Rattle.slink_live.proofs.Updating.{updated_awake, updated_more, updated_none}
use Rattle.slink_live.proofs.server.Server.update_all.Goals as goal

pub loop-slot-init : goal.loop-slot-init
loop-slot-init g c = updated_none c.requires

pub update-requires : goal.update-requires
update-requires g c =
    let keeps = c.loop-slot.invariant.keeps in
    let count = ap (λ (s : ServerState). length s.links) c.self.view_is in
    record {
      sound = keeps.sound;
      within = omega (arith, c.loop-slot-test.true, c.len-slot-end.ensures, keeps.carries.slots, count);
    }

pub loop-slot-preserved : goal.loop-slot-preserved
loop-slot-preserved g c =
    updated_more c.loop-slot.invariant c.update.ensures.keeps c.update.ensures.closes c.update.ensures.updates

pub returns-clause-keeps_awake : goal.returns-clause-keeps_awake
returns-clause-keeps_awake g c =
    let count = ap (λ (s : ServerState). length s.links) c.self.view_is in
    record {
      awake = λ reporting. updated_awake c.loop-slot.invariant
          (omega (arith, c.loop-slot-test.false, c.len-slot-end.ensures, count)) reporting (λ k none. absurd none);
      closed = c.loop-slot.invariant.closed;
    }
