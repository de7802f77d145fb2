use Rattle.std.proofs.Common.{arith, w32}
use Rattle.std.proofs.lemmas.Nat.Bits.{bit_at-trailing_zeros}
use Rattle.slink_live.proofs.places.lowest.Goals as goal

pub returns-else-bits-eq0 : goal.returns-else-bits-eq0
returns-else-bits-eq0 c =
    let lowest =
    bit_at-trailing_zeros w32 c.args.bits (omega (arith, c.if-bits-eq0.false)) (omega (arith, c.ranges.bits.fits)) in
    record { some = (lowest.1, lowest.2); few = lowest.0; none = tt }
