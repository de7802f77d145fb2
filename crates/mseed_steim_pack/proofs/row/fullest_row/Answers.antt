use Rattle.std.proofs.Common.{arith}
use Rattle.mseed_steim_pack.proofs.Fullest.{best_all}
use Rattle.mseed_steim_pack.proofs.row.fullest_row.Goals.{then-diffs-lt-MOST, else-diffs-lt-MOST+in-One}
use Rattle.mseed_steim_pack.proofs.row.fullest_row.Goals.{else-diffs-lt-MOST+in-Two}
use Rattle.mseed_steim_pack.proofs.row.fullest_row.Goals as goal

pub returns-clause-best : goal.returns-clause-best
returns-clause-best c = search (arith, best_all)

pub returns-clause-fits : goal.returns-clause-fits
returns-clause-fits c = search (arith)
