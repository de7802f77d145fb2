use Rattle.std.proofs.Common.{◌+◌, arith}
use Rattle.mseed_join.proofs.Digits.{has_one}
use Rattle.mseed_join.proofs.numbers.with_rest.Goals as goal

pub with_digit-requires-clause-small : goal.with_digit-requires-clause-small
with_digit-requires-clause-small c =
    has_one c.args.number c.args.count c.requires.small (omega (arith, c.if-left-eq1.true, c.requires.few))

pub with_digit-requires-else-left-eq2-clause-small : goal.with_digit-requires-else-left-eq2-clause-small
with_digit-requires-else-left-eq2-clause-small c =
    has_one c.with_two-else-left-eq2.result (c.args.count + 2) c.with_two-else-left-eq2.ensures.small
    (omega (arith, c.if-left-eq0.false, c.if-left-eq1.false, c.if-left-eq2.false, c.requires.few, c.requires.before))
