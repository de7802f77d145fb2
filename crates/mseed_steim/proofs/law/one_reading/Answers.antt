use Rattle.mseed_steim.proofs.Laws.{reading_one}
use Rattle.mseed_steim.proofs.law.one_reading.Goals as goal

pub returns : goal.returns
returns c = λ v. reading_one v
