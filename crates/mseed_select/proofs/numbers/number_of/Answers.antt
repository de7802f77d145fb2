use Rattle.std.proofs.Common.{◌*◌, ◌+◌, ℕ, List, ap, arith, ◌∙◌}
use Rattle.mseed_select.proofs.Digits.{bound_more, digit_at, number_more, small}
use Rattle.mseed_select.proofs.numbers.number_of.Goals as goal

pub overflow_mul-number : goal.overflow_mul-number
overflow_mul-number c =
    omega (arith, small c.loop-digit.number c.loop-digit.digit-index c.loop-digit.invariant.1 (omega arith))

pub overflow_add-number : goal.overflow_add-number
overflow_add-number c =
    let few = small c.loop-digit.number c.loop-digit.digit-index c.loop-digit.invariant.1 (omega arith) in
    omega (arith, few, digit_at c.args.digits.now c.loop-digit.digit-index c.requires.digits c.loop-digit-test.true)

pub loop-digit-preserved : goal.loop-digit-preserved
loop-digit-preserved c =
    let ds : List ℕ = c.args.digits.now in
    let i : ℕ = c.loop-digit.digit-index in
    let digit = digit_at ds i c.requires.digits c.loop-digit-test.true in (
      ap (λ (n : ℕ). 10 * c.loop-digit.number + n) c.from.ensures
          ∙ number_more ds i c.loop-digit.number c.loop-digit-test.true c.loop-digit.invariant.0,
      omega (arith, c.from.ensures, bound_more c.loop-digit.number i _ c.loop-digit.invariant.1 digit.0 digit.1),
    )
