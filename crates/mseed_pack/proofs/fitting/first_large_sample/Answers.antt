use Rattle.std.proofs.Common.{refl}
use Rattle.mseed_pack.proofs.fitting.first_large_sample.Goals as goal

pub are_within-requires-clause-power : goal.are_within-requires-clause-power
are_within-requires-clause-power c = (16, refl)
