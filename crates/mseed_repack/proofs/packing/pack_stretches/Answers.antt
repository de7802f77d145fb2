use Rattle.std.proofs.Common.{None, get_or, length, take, arith, refl}
use Rattle.mseed_repack.specs.declared.plan.Plan.{Plan}
use Rattle.mseed_repack.specs.declared.plan.Way.TheVariants.{Frames}
use Rattle.mseed_repack.specs.private.Planning.{most_of}
use Rattle.mseed_repack.proofs.Planning.{goes_on, packed_all, packed_more, packed_next, packed_none, packed_part}
use Rattle.mseed_repack.proofs.Stretched.{fits_on}
use Rattle.mseed_repack.proofs.packing.pack_stretches.Goals as goal

-- what is read where no plan is left
abbrev none_left : Plan
none_left = record { records = None; way = Frames 0 }

pub loop-plan-init : goal.loop-plan-init
loop-plan-init g c = (
  c.requires.led,
  packed_none _ _ _ _ _ _ c.args.options.now.numbered c.requires.ready,
)

pub pack_series-requires : goal.pack_series-requires
pack_series-requires g c κs =
    let l = c.loop-plan in
    let ps = c.args.plans.now in
    let p : Plan = get_or ps l.plan-index none_left in
    let vs = g.R.Walk.left c.skip-rest.result in
    let so = packed_next ps l.plan-index none_left vs c.loop-plan-test.true c.skip-rest.ensures.left l.invariant.1 in
    let one = so.can.0 in (
      (refl, tt),
      rw c.most-count.ensures (
        record {
          walks = record { led = c.skip-rest.ensures.leads; some = one.readable.some; sound = one.readable.sound };
          few = one.readable.few;
          steps_fit = omega (arith, one.readable.steps_fit, l.auto.steps);
        },
        (
          goes_on c.args.options.now.encoding l.next.encoding (length c.args.samples.now) (length l.samples) p.way
              (take (most_of p) vs) so.next_is.encoding_is (omega (arith, l.auto.samples)) one.goes,
          fits_on c.args.options.now l.next (length so.records) (take (most_of p) vs) so.next_is one.fits,
        ),
      ),
    )

pub returns-in-Err-clause-err : goal.returns-in-Err-clause-err
returns-in-Err-clause-err g c =
    let l = c.loop-plan in
    packed_part (packed_next c.args.plans.now l.plan-index none_left (g.R.Walk.left c.skip-rest.result)
    c.loop-plan-test.true c.skip-rest.ensures.left l.invariant.1) (rw c.most-count.ensures at c.in-Err.ensures)

pub loop-plan-preserved : goal.loop-plan-preserved
loop-plan-preserved g c =
    let l = c.loop-plan in (
      c.skip-rest.ensures.leads,
      rw c.most-count.ensures (packed_more (packed_next c.args.plans.now l.plan-index none_left
          (g.R.Walk.left c.skip-rest.result) c.loop-plan-test.true c.skip-rest.ensures.left l.invariant.1)
          (rw c.most-count.ensures at c.in-Ok.ensures) (record {
            exponent_is = c.after-next.ensures.exponent;
            encoding_is = c.after-next.ensures.encoding;
            sequence_is = c.after-next.ensures.sequence;
          })),
    )

pub returns-clause-ok : goal.returns-clause-ok
returns-clause-ok g c =
    packed_all c.args.plans.now c.loop-plan.plan-index (omega (arith, c.loop-plan-test.false)) c.loop-plan.invariant.1
