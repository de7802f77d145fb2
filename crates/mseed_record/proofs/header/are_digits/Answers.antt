use Rattle.std.proofs.Common.{refl, arith}
use Rattle.std.proofs.lemmas.Bool.{OnTrue_from, eqb-true}
use Rattle.mseed_record.proofs.DigitLanes.{is_above, lowered, six_digits}
use Rattle.mseed_record.proofs.header.are_digits.Goals as goal

pub returns : goal.returns
returns c =
    OnTrue_from _ _ (λ e. six_digits 8 is_above lowered c.args.bytes.now c.requires (omega arith) c.type_inv.bytes refl
    (omega arith) (eqb-true _ _ e))
