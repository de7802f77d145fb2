use Rattle.std.proofs.Common.{◌≡◌, ◌∙◌, ◌<◌, ◌^◌, ℕ, List, arith, length}
use Rattle.std.proofs.lemmas.Result.{IfOk-weaker}
use Rattle.slink_model.specs.World.{seen}
use Rattle.slink_model.specs.Relay.{ComesThrough, IsHeldAs, fed}
use Rattle.slink_model.specs.private.Relaying.{IsAmong}
use Rattle.slink_model.proofs.Relayed.{IsFed, came, fed_is, held_is}
use Rattle.slink_model.proofs.relaying.send.Goals as goal

same_steps : (c : goal.After-deref) → c.deref.result.now ≡ fed c.args.steps.now c.args.records.now
same_steps c = c.deref.ensures.value ∙ c.in_ok-fed.ensures.ok

known : (c : goal.After-deref) → IsFed c.args.setup.now c.deref.result.now
known c = fed_is c.a_stretch_reads_back.ensures.channel c.args.series.now c.args.setup.now c.args.steps.now
    c.args.records.now c.deref.result.now c.requires.relayable c.requires.reads c.told-records (same_steps c)

pub run_schedule-requires-clause-few : goal.run_schedule-requires-clause-few
run_schedule-requires-clause-few c = let few = (known c).few in omega (arith, few)

pub run_schedule-requires-clause-steps : goal.run_schedule-requires-clause-steps
run_schedule-requires-clause-steps c = (known c).of_places

-- what is held of them
held : (c : goal.After-first_of) → IsAmong c.args.series.now c.args.records.now c.first_of.result.now
    × (length c.first_of.result.now < 2 ^ 24)
held c = held_is c.a_stretch_reads_back.ensures.channel _ _ c.args.steps.now _
    _ (seen c.in-Ok.world) _ c.requires.relayable c.requires.reads c.told-records
    (c.deref.ensures.value ∙ c.in_ok-fed.ensures.ok) c.in-Ok.ensures.happen c.in-Ok.ensures.brief c.first_of.ensures

pub put_together-requires-clause-few : goal.put_together-requires-clause-few
put_together-requires-clause-few c = let few = (held c).1 in omega (arith, few)

pub put_together-requires-clause-among : goal.put_together-requires-clause-among
put_together-requires-clause-among c = (c.args.records.now, (held c).0)

pub returns-clause-ok : goal.returns-clause-ok
returns-clause-ok c =
    let same = c.deref.ensures.value ∙ c.in_ok-fed.ensures.ok in
    let held = held_is c.a_stretch_reads_back.ensures.channel _ _
    c.args.steps.now _ _ (seen c.in-Ok.world) _ c.requires.relayable c.requires.reads c.told-records same
    c.in-Ok.ensures.happen c.in-Ok.ensures.brief c.first_of.ensures in
    IfOk-weaker c.put_together.result (λ t. (records : List (List ℕ))
    → IsAmong c.args.series.now records c.first_of.result.now
    → IsHeldAs t c.args.series.now records c.first_of.result.now)
    (λ t. ComesThrough t c.args.series.now c.args.setup.now c.args.steps.now c.args.records.now)
    (λ t h. came c.args.series.now c.args.setup.now c.args.steps.now c.args.records.now c.deref.result.now
    (seen c.in-Ok.world) c.first_of.result.now t same c.in-Ok.ensures.happen c.first_of.ensures
    (h c.args.records.now held.0)) c.put_together.ensures.ok
