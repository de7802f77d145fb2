use Rattle.std.proofs.Common.{refl}
use Rattle.mseed_c.specs.Packed.{refused}
use Rattle.mseed_c.proofs.packing.mseed_pack.Goals as goal

pub returns-in-Err : goal.returns-in-Err
returns-in-Err c = rw c.code_of_refusal.ensures (refused c.in-Err.refusal c.in-Err.ensures.refused refl refl)
