use Rattle.mseed_repack.specs.private.Planning.{stretches_by}
use Rattle.mseed_repack.specs.declared.stretching.Cutting.TheVariants.{Stretches}
use Rattle.mseed_repack.proofs.Planning.{channel_fits, part_as, text_as, wrote_as}
use Rattle.mseed_repack.proofs.channel.repack_planned.Goals as goal

pub returns-in-Ok : goal.returns-in-Ok
returns-in-Ok g c =
    let ps = c.args.plans.now in
    let vs = g.R.Walk.left c.args.records in (
      channel_fits _ _ _ _ _ c.requires.sound c.requires.are c.requires.ready,
      wrote_as (λ text. text_as Stretches c.args.options.now vs (stretches_by ps vs) text c.requires.are)
          c.in-Ok.ensures.ok,
    )

pub returns-in-Err : goal.returns-in-Err
returns-in-Err g c =
    let ps = c.args.plans.now in
    let vs = g.R.Walk.left c.args.records in (
      channel_fits _ _ _ _ _ c.requires.sound c.requires.are c.requires.ready,
      wrote_as (λ text. part_as Stretches c.args.options.now vs (stretches_by ps vs) text c.requires.are)
          c.in-Err.ensures.err,
    )
