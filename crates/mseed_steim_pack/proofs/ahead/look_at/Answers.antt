use Rattle.std.proofs.Common.{arith}
use Rattle.mseed_steim_pack.proofs.Lookaheads.{known_all, known_none}
use Rattle.mseed_steim_pack.proofs.ahead.look_at.Goals as goal

pub returns-else-diffs-ge-FEW : goal.returns-else-diffs-ge-FEW
returns-else-diffs-ge-FEW c = known_none c.args.scheme c.args.diffs.now c.args.cut.now 0 (omega arith)

pub returns-then-diffs-ge-AHEAD : goal.returns-then-diffs-ge-AHEAD
returns-then-diffs-ge-AHEAD c = search (arith, known_all)
