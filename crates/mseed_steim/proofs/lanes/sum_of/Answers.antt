use Rattle.mseed_steim.proofs.LaneSums.{fold_sum_0}
use Rattle.mseed_steim.proofs.lanes.sum_of.Goals as goal

pub returns : goal.returns
returns c = fold_sum_0 c.args.a
