use Rattle.mseed_time.proofs.Dating.{dated}
use Rattle.mseed_time.proofs.law.one_date.Goals as goal

pub returns : goal.returns
returns c = λ year month day n low high. dated year month day n low high
