use Rattle.mseed_files.proofs.OnePlace as places
use Rattle.mseed_files.proofs.law.one_place.Goals as goal

pub returns : goal.returns
returns c = places.one_place
