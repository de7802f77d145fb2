use Rattle.std.proofs.Common.{◌-◌, ◌≤◌, ◌<◌, ◌^◌, ℕ, get_or, arith, subst, sym}
use Rattle.mseed_join.proofs.Digits.{has_one, has_two, is_high}
use Rattle.mseed_join.proofs.numbers.with_two.Goals as goal

pub with_digit-requires-clause-small : goal.with_digit-requires-clause-small
with_digit-requires-clause-small c =
    has_one c.args.number c.args.count c.requires.small (omega (arith, c.requires.few))

pub with_digit-requires-2-clause-small : goal.with_digit-requires-2-clause-small
with_digit-requires-2-clause-small c =
    let byte : ℕ = get_or c.args.bytes.now c.args.count 0 in
    let high : byte ≤ 57 = is_high byte (c.requires.digits c.args.count (omega arith)) in
    let less : byte - 48 < 10 = omega (arith, high) in
    subst (λ (n : ℕ). n < 10 ^ 16) (sym c.with_digit.ensures)
    (has_two c.args.number c.args.count (byte - 48) c.requires.small less c.requires.few)
