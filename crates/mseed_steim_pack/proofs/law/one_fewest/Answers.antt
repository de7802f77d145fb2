use Rattle.mseed_steim_pack.proofs.Fewest.{one_fewest}
use Rattle.mseed_steim_pack.proofs.law.one_fewest.Goals as goal

pub returns : goal.returns
returns c = one_fewest
