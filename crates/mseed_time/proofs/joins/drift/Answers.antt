use Rattle.std.proofs.Common.{arith, w64, FitsSigned, refl}
use Rattle.std.proofs.lemmas.Int.{ints, to_z-of_z}
use Rattle.mseed_time.proofs.Joining.{difference}
use Rattle.mseed_time.proofs.joins.drift.Goals as goal

pub returns-clause-value : goal.returns-clause-value
returns-clause-value c =
    let fits : FitsSigned w64 c.passed.result = omega (arith, ints) in
    rw (difference c.scaled.result c.due.result c.scaled.ensures.low c.scaled.ensures.high c.due.ensures.low
    c.due.ensures.high) (rw (
      c.scaled.ensures.value,
      c.due.ensures.value,
      to_z-of_z w64 c.passed.result fits,
      c.passed.ensures,
      to_z-of_z w64 c.args.added c.ranges.added,
      c.num.ensures.value,
      c.den.ensures.value,
    ) refl)

pub returns-clause-low : goal.returns-clause-low
returns-clause-low c = rw (difference c.scaled.result c.due.result c.scaled.ensures.low c.scaled.ensures.high
    c.due.ensures.low c.due.ensures.high) (omega (arith, ints, c.scaled.ensures.low, c.due.ensures.high))

pub returns-clause-high : goal.returns-clause-high
returns-clause-high c = rw (difference c.scaled.result c.due.result c.scaled.ensures.low c.scaled.ensures.high
    c.due.ensures.low c.due.ensures.high) (omega (arith, ints, c.scaled.ensures.high, c.due.ensures.low))
