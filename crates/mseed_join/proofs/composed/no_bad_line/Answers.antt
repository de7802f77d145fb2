use Rattle.mseed_join.proofs.Clean.{none_bad}
use Rattle.mseed_join.proofs.composed.no_bad_line.Goals as goal

pub returns : goal.returns
returns c = none_bad
