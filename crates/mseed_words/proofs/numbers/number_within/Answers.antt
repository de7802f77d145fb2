use Rattle.std.proofs.Common.{◌≡◌, ◌≤◌, ◌<◌, ◌+◌, ◌*◌, ◌^◌, ℕ, List, get_or, true, arith, suc, ap, sym, ◌∙◌}
use Rattle.std.proofs.Math.Nat.{pow-suc, pow-le-pow_right}
use Rattle.mseed_words.specs.Numbers.{is_digit}
use Rattle.mseed_words.proofs.Called.{all_more, below, digits_more}
use Rattle.mseed_words.proofs.numbers.number_within.Goals as goal

wide : (digits : ℕ) → digits ≤ 8 → 10 ^ digits ≤ 10 ^ 8
wide digits few = pow-le-pow_right {n = 10} (omega arith) few

pub overflow_mul-number : goal.overflow_mul-number
overflow_mul-number c =
    omega (arith, wide c.loop-digit.digit-index (omega arith), c.loop-digit.invariant.2)

pub overflow_add-number : goal.overflow_add-number
overflow_add-number c =
    omega (arith, wide c.loop-digit.digit-index (omega arith), c.loop-digit.invariant.2)

pub loop-digit-preserved : goal.loop-digit-preserved
loop-digit-preserved c =
    let ds : List ℕ = c.as_bytes-digits.result.now in
    let i : ℕ = c.loop-digit.digit-index in
    let d : ℕ = get_or ds i 0 in
    let wide : 10 ^ (i + 1) ≡ 10 ^ i * 10 = ap (λ (n : ℕ). 10 ^ n) {y = suc i} (omega arith) ∙ pow-suc 10 i in
    let is : is_digit d ≡ true = sym c.is_digit.ensures ∙ c.if-not-is_digit.false in
    let low : d < 58 = below d is in (
      all_more ds i 0 c.loop-digit-test.true c.loop-digit.invariant.0 is,
      rw (c.from.ensures, c.loop-digit.invariant.1) (sym (digits_more ds i 0 c.loop-digit-test.true)),
      omega (arith, wide, low, c.from.ensures, c.loop-digit.invariant.2),
    )
