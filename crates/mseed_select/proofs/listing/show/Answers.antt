use Rattle.std.proofs.Common.{refl}
use Rattle.mseed_select.proofs.listing.show.Goals as goal

pub returns-in-Ok-clause-shown : goal.returns-in-Ok-clause-shown
returns-in-Ok-clause-shown g c = (c.in-Ok.found, (refl, c.in-Ok.ensures.shown))
