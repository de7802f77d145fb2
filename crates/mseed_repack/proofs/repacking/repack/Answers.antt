use Rattle.mseed_repack.proofs.Everything.{all_repacked}
use Rattle.mseed_repack.proofs.repacking.repack.Goals as goal

pub returns-clause-repacked : goal.returns-clause-repacked
returns-clause-repacked g c = (all_repacked _ _ _ _ _ _ _ c.repack_selected.ensures.repacked).0
