use Rattle.std.proofs.Common.{◌≤◌, length, refl, arith}
use Rattle.mseed_record.proofs.DigitLanes.{is_above, lowered}
use Rattle.mseed_join.proofs.DigitLanes.{all_digits, digits_before, few_digits, other_after}
use Rattle.mseed_join.proofs.numbers.digits_ahead.Goals as goal

pub returns-then-others-eq0-clause-digits : goal.returns-then-others-eq0-clause-digits
returns-then-others-eq0-clause-digits c =
    let room : 16 ≤ length c.args.bytes.now = omega (arith, c.if-bytes-lt-FEW.false) in
    all_digits is_above lowered c.args.bytes.now room c.type_inv.bytes refl c.if-others-eq0.true

pub returns-clause-within : goal.returns-clause-within
returns-clause-within c =
    let room : 16 ≤ length c.args.bytes.now = omega (arith, c.if-bytes-lt-FEW.false) in
    omega (arith, room, few_digits is_above lowered c.args.bytes.now room c.type_inv.bytes refl c.if-others-eq0.false)

pub returns-clause-few : goal.returns-clause-few
returns-clause-few c =
    let room : 16 ≤ length c.args.bytes.now = omega (arith, c.if-bytes-lt-FEW.false) in
    few_digits is_above lowered c.args.bytes.now room c.type_inv.bytes refl c.if-others-eq0.false

pub returns-clause-digits : goal.returns-clause-digits
returns-clause-digits c =
    let room : 16 ≤ length c.args.bytes.now = omega (arith, c.if-bytes-lt-FEW.false) in
    digits_before is_above lowered c.args.bytes.now room c.type_inv.bytes refl c.if-others-eq0.false

pub returns-clause-ends : goal.returns-clause-ends
returns-clause-ends c other _ =
    let room : 16 ≤ length c.args.bytes.now = omega (arith, c.if-bytes-lt-FEW.false) in
    other_after is_above lowered c.args.bytes.now room c.type_inv.bytes refl c.if-others-eq0.false other
