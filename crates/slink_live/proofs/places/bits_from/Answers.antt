use Rattle.std.proofs.Common.{◌^◌, ◌<◌, ◌≤◌, arith, sym}
use Rattle.std.proofs.Math.Nat.{div-eq_of_lt, pow-le-pow_right}
use Rattle.slink_live.proofs.places.bits_from.Goals as goal

pub returns-else-from-lt32-clause-value : goal.returns-else-from-lt32-clause-value
returns-else-from-lt32-clause-value c =
    let most : 2 ^ 32 ≤ 2 ^ c.args.from =
    pow-le-pow_right {n = 2} (omega arith) {i = 32} {j = c.args.from} (omega (arith, c.if-from-lt32.false)) in
    let less : c.args.bits < 2 ^ c.args.from = omega (arith, most, c.ranges.bits.fits) in
    sym (div-eq_of_lt less)
