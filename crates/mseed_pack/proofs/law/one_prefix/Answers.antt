use Rattle.mseed_pack.proofs.Prefixes.{taken_prefixes}
use Rattle.mseed_pack.proofs.law.one_prefix.Goals as goal

pub returns : goal.returns
returns c = taken_prefixes c.one_packing.ensures.prefixes
