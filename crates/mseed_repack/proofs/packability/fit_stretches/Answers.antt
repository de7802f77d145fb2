use Rattle.std.proofs.Common.{ℕ, Some, length, drop, take, arith, refl}
use Rattle.mseed_repack.proofs.Planning.{first_fewer, first_read, planned_all, planned_misfit, planned_more}
use Rattle.mseed_repack.proofs.packability.fit_stretches.Goals as goal

pub loop-count-init : goal.loop-count-init
loop-count-init g c = (
  c.requires.cut.led,
  c.requires.cut.led,
  refl,
  rw c.requires.none refl,
  record { sound = c.requires.cut.sound; few = c.requires.cut.few; steps_fit = c.requires.steps_fit },
  omega arith,
)

pub cut_stretch-requires : goal.cut_stretch-requires
cut_stretch-requires g c κs =
    let read = c.loop-count.invariant.4 in
    ((refl, tt), record { led = c.loop-count.invariant.1; sound = read.sound; few = read.few })

pub fit_series-requires : goal.fit_series-requires
fit_series-requires g c κs =
    let l = c.loop-count in
    let one = (first_read _ _ _ l.invariant.4 c.in-Some.ensures.some.first).0 in (
      (refl, tt),
      (
        record {
          walks = record { led = l.invariant.0; some = rw l.invariant.2 one.some; sound = rw l.invariant.2 one.sound };
          few = rw l.invariant.2 one.few;
          steps_fit = rw (l.invariant.2, l.auto.steps) one.steps_fit;
        },
        tt,
      ),
    )

pub returns-in-Misfits-clause-ready : goal.returns-in-Misfits-clause-ready
returns-in-Misfits-clause-ready g c =
    let l = c.loop-count in
    let o = c.args.options.now in
    let n : ℕ = c.in-Some.count in
    let vs = g.R.Walk.left l.after in
    planned_misfit _ _ _ _ _ _ _ _ _ _ _ _ c.requires.cut.sound l.invariant.3 c.in-Some.ensures.some.first (omega
    (arith, l.plans.ok, c.len.ensures)) (rw (c.in-Misfits.is, l.invariant.2) at c.in_ok-way.ensures.fitting)

pub loop-count-preserved : goal.loop-count-preserved
loop-count-preserved g c =
    let l = c.loop-count in
    let o = c.args.options.now in
    let n : ℕ = c.in-Some.count in
    let vs = g.R.Walk.left l.after in
    let some = c.in-Some.ensures.some in
    let read = first_read (length c.args.steps.now) n vs l.invariant.4 some.first in
    let fits = rw (c.in-Fits.is, l.invariant.2) at c.in_ok-way.ensures.fitting in
    let grown = l.invariant.5 in (
      some.led,
      some.led,
      refl,
      rw (some.left_are, c.in_ok-push-in-Fits.ensures.items)
          (planned_more o (length l.samples.items) (length c.fit_series.new.samples.items) (length c.args.steps.now)
          l.plans.items (record { records = Some n; way = c.in-Fits.way }) (g.R.Walk.left c.args.records) vs
          c.in_ok-way.ensures.grown l.invariant.3 some.first
          (record { readable = read.0; fits = fits.0; goes = fits.1 })),
      rw some.left_are read.1,
      omega (arith, grown, c.in_ok-way.ensures.grown),
    )

pub loop-count-smaller : goal.loop-count-smaller
loop-count-smaller g c =
    let vs = g.R.Walk.left c.loop-count.after in
    let n : ℕ = c.in-Some.count in
    rw c.in-Some.ensures.some.left_are (first_fewer vs (take n vs) (drop n vs) c.in-Some.ensures.some.first)

pub returns-in-Misfits-clause-grown : goal.returns-in-Misfits-clause-grown
returns-in-Misfits-clause-grown g c =
    let grown = c.loop-count.invariant.5 in
    omega (arith, grown, c.in_ok-way.ensures.grown)

pub returns-clause-ready : goal.returns-clause-ready
returns-clause-ready g c =
    let l = c.loop-count in
    rw l.auto.steps
    (planned_all _ _ _ _ _ _ c.requires.cut.sound l.invariant.3 c.in_default.ensures.none)
