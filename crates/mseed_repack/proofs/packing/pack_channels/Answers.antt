use Rattle.std.proofs.Common.{map, arith, refl}
use Rattle.std.proofs.lemmas.List.{length-map}
use Rattle.mseed_repack.proofs.Archives.{ready_on, texts_all, texts_next, texts_part, texts_still}
use Rattle.mseed_repack.proofs.Planning.{plan_each, packability_each}
use Rattle.mseed_repack.proofs.Texts.{written_none}
use Rattle.mseed_repack.proofs.packing.pack_channels.Goals as goal
use Rattle.mseed_repack.proofs.packing.pack_channels.Goals.{in-Fit+in-Ok, in_default}

pub loop-number-init : goal.loop-number-init
loop-number-init g c = written_none _ _ _ _

pub bounds : goal.bounds
bounds g c =
    let size = packability_each _ _ _ c.requires.ready in
    omega (arith, size, c.loop-number-test.true)

pub bounds-packabilities-number : goal.bounds-packabilities-number
bounds-packabilities-number g c =
    let size = packability_each _ _ _ c.requires.ready in
    omega (arith, size, c.loop-number-test.true)

pub plans_at-requires : goal.plans_at-requires
plans_at-requires g c =
    let each = plan_each _ _ _ c.requires.ready in
    let size = length-map c.args.plans.now (λ own. own.items) in
    omega (arith, each, size, c.loop-number-test.true)

pub pack_stretches-requires : goal.pack_stretches-requires
pack_stretches-requires g c κs =
    let walk = c.channel_walk-channel_walk in
    let ready = ready_on c.args.archive.now c.args.packabilities.now (map (λ own. own.items) c.args.plans.now)
    c.requires.ready c.loop-number.number c.loop-number-test.true walk.result walk.ensures.channel_walk _
    c.plans_at.result.now c.in-Fit.is c.plans_at.ensures in
    ((refl, tt), (walk.ensures.channel_walk.led, rw (c.loop-number.auto.samples, c.loop-number.auto.steps) ready.1))

pub returns-in-Err-clause-err : goal.returns-in-Err-clause-err
returns-in-Err-clause-err g c =
    let a = c.args.archive.now in
    let ls = map (λ own. own.items) c.args.plans.now in
    let k = c.loop-number.number in
    let walk = c.channel_walk-channel_walk in
    texts_part a c.args.packabilities.now ls c.requires.ready k c.loop-number-test.true walk.result
    walk.ensures.channel_walk _ c.plans_at.result.now c.in-Fit.is c.plans_at.ensures c.loop-number.invariant
    c.in-Err.ensures.err

pub loop-number-preserved : goal.loop-number-preserved
loop-number-preserved g c =
    let a = c.args.archive.now in
    let ss = c.args.packabilities.now in
    let ls = map (λ own. own.items) c.args.plans.now in
    let k = c.loop-number.number in
    let walk = c.channel_walk-channel_walk in
    elim c.match-packabilities-number.branch [
      | in-Fit+in-Ok w ↦
          rw w.output-is
          (texts_next a ss ls c.requires.ready k c.loop-number-test.true walk.result walk.ensures.channel_walk _
          w.plans_at.result.now w.in-Fit.is w.plans_at.ensures c.loop-number.invariant w.in-Ok.ensures.ok)
      | in_default w ↦ rw w.output-is
          (texts_still a ss ls c.requires.ready k c.loop-number-test.true walk.result walk.ensures.channel_walk _
          w.in_default.not-Fit c.loop-number.invariant)
    ]

pub returns-clause-ok : goal.returns-clause-ok
returns-clause-ok g c =
    texts_all c.args._cutting c.args.options.now c.args.archive.now c.args.packabilities.now
    c.loop-number.number (omega (arith, c.loop-number-test.false)) c.loop-number.invariant
