use Rattle.std.proofs.Common.{◌≤◌, arith, length, sym, ◌∙◌}
use Rattle.std.proofs.lemmas.Bool.Decides.{nat_tests}
use Rattle.mseed_select.proofs.Digits.{fraction_is}
use Rattle.mseed_select.proofs.numbers.fraction_of.Goals as goal

pub returns-clause-value : goal.returns-clause-value
returns-clause-value c =
    let some : 1 ≤ length c.args.text.now =
    grind (arith, nat_tests, c.is_empty.ensures, c.if-is_empty.false) in
    fraction_is c.args.text.now c.number_of.result c.scale_of.result some (omega arith)
    (sym c.are_digits.ensures ∙ c.if-not-are_digits.false) c.number_of.ensures.value c.scale_of.ensures.value
