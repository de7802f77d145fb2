use Rattle.mseed_repack.proofs.Times.{stay_near}
use Rattle.mseed_repack.proofs.stretch_law.instants_stay_near.Goals as goal

pub returns : goal.returns
returns c = λ first rest rate is known. stay_near first rest rate is known
