use Rattle.mseed_join.proofs.OneLine.{line_one}
use Rattle.mseed_join.proofs.line_law.one_line.Goals as goal

pub returns : goal.returns
returns c = line_one
