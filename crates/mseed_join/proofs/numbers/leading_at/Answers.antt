use Rattle.std.proofs.Common.{◌∙◌, sym}
use Rattle.std.proofs.lemmas.List.{take_rest}
use Rattle.mseed_join.proofs.Digits.{number_on}
use Rattle.mseed_join.proofs.numbers.leading_at.Goals as goal

pub returns-else-not-is_digit-clause-long : goal.returns-else-not-is_digit-clause-long
returns-else-not-is_digit-clause-long c e largest =
    number_on largest c.few_more_at-number.result.0 c.few_more_at-number.result.1 c.from.result c.args.bytes.now _
    c.in-len1-up.len_at_least c.if-first-eq48.false (sym c.is_digit.ensures ∙ c.if-not-is_digit.false)
    (take_rest c.args.bytes.now 1) c.from.ensures c.few_more_at-number.ensures.value
