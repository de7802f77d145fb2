use Rattle.std.proofs.Common.{refl}
use Rattle.mseed_join.proofs.HexLanes.{digit_wrong, is_most, lowered, raised, values_read}
use Rattle.mseed_join.proofs.hex.values_at.Goals as goal

pub returns-then-are_other-letters-ne0-clause-none : goal.returns-then-are_other-letters-ne0-clause-none
returns-then-are_other-letters-ne0-clause-none c =
    let there = digit_wrong is_most lowered raised c.args.bytes.now c.requires c.type_inv.bytes refl refl
    c.if-are_other-letters-ne0.true in
    (there.0, there.1.0, there.1.1)

pub returns-clause-some : goal.returns-clause-some
returns-clause-some c =
    values_read is_most lowered raised c.args.bytes.now c.requires c.type_inv.bytes refl refl
    c.if-are_other-letters-ne0.false
