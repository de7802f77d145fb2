use Rattle.mseed_repack.proofs.Everything.{all_restretched}
use Rattle.mseed_repack.proofs.restretching.repack_stretches.Goals as goal

pub returns-clause-repacked : goal.returns-clause-repacked
returns-clause-repacked g c =
    all_restretched _ _ _ _ _ _ _ _ c.repack_selected_stretches.ensures.repacked
