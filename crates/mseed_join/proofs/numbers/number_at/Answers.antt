use Rattle.std.proofs.Common.{◌-◌, ◌∙◌, List, ℕ, length, drop, ap, sym, arith}
use Rattle.std.proofs.lemmas.List.{length-drop, take_all}
use Rattle.mseed_join.specs.private.Reading.{more_at, within}
use Rattle.mseed_join.proofs.numbers.number_at.Goals as goal

pub returns-then-count-gt-FEW-clause-value : goal.returns-then-count-gt-FEW-clause-value
returns-then-count-gt-FEW-clause-value c =
    let digits = c.leading_at-number.ensures in
    let rest : List ℕ = drop c.leading_at-number.result.1 c.args.bytes.now in
    c.long_at.ensures.value
    ∙ ap (λ (xs : List ℕ). within c.args.largest (more_at c.leading_at-number.result.0 xs))
    (take_all (length c.args.bytes.now - c.leading_at-number.result.1) rest
    (omega (arith, length-drop c.leading_at-number.result.1 c.args.bytes.now)))
    ∙ sym (digits.long (omega (arith, digits.few, c.if-count-gt-FEW.true)) c.args.largest)
