use Rattle.std.proofs.Common.{arith, get_or, pos, rules, sym, w32, w64}
use Rattle.std.proofs.lemmas.Int.{to_z-of_z}
use Rattle.mseed_pack.specs.Fitting.{large_sample, large_difference}
use Rattle.mseed_pack.proofs.Differences.{length-differences}
use Rattle.mseed_pack.proofs.Misfits.{difference_late}
use Rattle.mseed_pack.proofs.fitting.misfit.Goals as goal

pub returns-in-Some-clause-some : goal.returns-in-Some-clause-some
returns-in-Some-clause-some c =
    rw c.head.ensures.trace at
    (c.in-Some.ensures.some c.args.series.now.samples.now c.args.options.now (sym c.head.ensures.count))

pub returns-in-Some-first_large_sample-clause-some : goal.returns-in-Some-first_large_sample-clause-some
returns-in-Some-first_large_sample-clause-some c =
    let fit = rw c.head.ensures.trace at
    (c.in_default.ensures.none c.args.series.now.samples.now (sym c.head.ensures.count)) in
    let i = c.in-Some-first_large_sample.index in
    rw (to_z-of_z w32 (get_or c.args.series.now.samples.now i (pos 0)) (search rules))
    (large_sample fit.some fit.slow fit.timed i c.in-Some-first_large_sample.ensures.some)

pub difference_at-requires-clause-some : goal.difference_at-requires-clause-some
difference_at-requires-clause-some c = difference_late _ _ _ c.in-Some-first_large_difference.ensures.some

pub difference_at-requires-clause-inside : goal.difference_at-requires-clause-inside
difference_at-requires-clause-inside c =
    let some = c.in-Some-first_large_difference.ensures.some in
    omega (arith, some.inside, length-differences c.args.series.now.samples.now)

pub returns-in-Some-first_large_difference-clause-some : goal.returns-in-Some-first_large_difference-clause-some
returns-in-Some-first_large_difference-clause-some c =
    let fit = rw c.head.ensures.trace at
    (c.in_default.ensures.none c.args.series.now.samples.now (sym c.head.ensures.count)) in
    rw (to_z-of_z w64 c.difference_at.result (search rules), c.difference_at.ensures)
    (large_difference fit.some fit.slow fit.timed c.in_default-first_large_sample.ensures.none
    c.in-Some-first_large_difference.index c.in-Some-first_large_difference.ensures.some)

pub returns-clause-none : goal.returns-clause-none
returns-clause-none c =
    let fit = rw c.head.ensures.trace at
    (c.in_default.ensures.none c.args.series.now.samples.now (sym c.head.ensures.count)) in
    search rules
