use Rattle.std.proofs.Common.{refl}
use Rattle.std.specs.Int.{w128}
use Rattle.std.proofs.lemmas.Int.{to_z-of_z}
use Rattle.mseed_time.proofs.Joining.{product_low, product_high, product_fits, widened}
use Rattle.mseed_time.proofs.joins.scaled.Goals as goal

pub overflow_mul-result : goal.overflow_mul-result
overflow_mul-result c =
    rw (widened c.args.passed c.from.result c.from-2.result c.args.num c.ranges.passed c.ranges.num
    c.from.ensures c.from-2.ensures) (product_fits c.args.passed c.args.num c.ranges.passed c.ranges.num)

pub returns-clause-value : goal.returns-clause-value
returns-clause-value c =
    rw (
      widened c.args.passed c.from.result c.from-2.result c.args.num c.ranges.passed c.ranges.num
          c.from.ensures c.from-2.ensures,
      to_z-of_z w128 _ (product_fits c.args.passed c.args.num c.ranges.passed c.ranges.num),
    ) refl

pub returns-clause-low : goal.returns-clause-low
returns-clause-low c = rw (returns-clause-value c) (product_low c.args.passed c.args.num c.ranges.passed
    c.ranges.num)

pub returns-clause-high : goal.returns-clause-high
returns-clause-high c = rw (returns-clause-value c) (product_high c.args.passed c.args.num c.ranges.passed
    c.ranges.num)
