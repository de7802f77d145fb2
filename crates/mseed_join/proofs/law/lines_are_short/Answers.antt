use Rattle.mseed_join.proofs.Ended.{short}
use Rattle.mseed_join.proofs.law.lines_are_short.Goals as goal

pub returns : goal.returns
returns c = short
