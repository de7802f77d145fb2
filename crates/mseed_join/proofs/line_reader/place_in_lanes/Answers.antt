use Rattle.mseed_join.proofs.LineEnds.{lanes_without_end, lanes_with_end}
use Rattle.mseed_join.proofs.line_reader.place_in_lanes.Goals as goal

pub returns-then-ends-eq0 : goal.returns-then-ends-eq0
returns-then-ends-eq0 c = lanes_without_end c.args.bytes.now c.args.at c.requires c.if-ends-eq0.true

pub returns : goal.returns
returns c = lanes_with_end c.args.bytes.now c.args.at c.requires c.if-ends-eq0.false
