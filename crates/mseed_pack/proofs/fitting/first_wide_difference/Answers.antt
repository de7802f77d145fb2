use Rattle.std.proofs.Common.{refl}
use Rattle.mseed_pack.proofs.fitting.first_wide_difference.Goals as goal

pub are_within-requires-clause-power : goal.are_within-requires-clause-power
are_within-requires-clause-power c = (29, refl)
