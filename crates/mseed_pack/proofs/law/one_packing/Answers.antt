use Rattle.mseed_pack.proofs.OnePacking.{one_list, one_prefix, either_prefix}
use Rattle.mseed_pack.proofs.law.one_packing.Goals as goal

pub returns-clause-whole : goal.returns-clause-whole
returns-clause-whole c = one_list c.one_packing.ensures.run c.one_name.ensures

pub returns-clause-prefix : goal.returns-clause-prefix
returns-clause-prefix c = one_prefix c.one_packing.ensures.run c.one_name.ensures

pub returns-clause-prefixes : goal.returns-clause-prefixes
returns-clause-prefixes c = either_prefix c.one_packing.ensures.run c.one_name.ensures
