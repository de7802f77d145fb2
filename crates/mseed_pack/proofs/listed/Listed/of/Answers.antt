use Rattle.std.proofs.Common.{arith, refl}
use Rattle.mseed_pack.proofs.Begun.{steim_fits}
use Rattle.mseed_pack.proofs.listed.Listed.of.Goals as goal

pub returns-clause-supplies : goal.returns-clause-supplies
returns-clause-supplies c = λ e steim fits.
    record { samples_are = refl; given_is = refl; inside = omega arith; fits = steim_fits e _ steim fits }
