use Rattle.mseed_join.proofs.Rows.{beginning_or}
use Rattle.mseed_join.proofs.joint.Joint.take_line.Goals as goal

pub returns-in-Start : goal.returns-in-Start
returns-in-Start g c =
    beginning_or c.args.self.now c.take_header.new.self c.args.line.now c.take_header.result c.in-Start.is
    c.requires.ended c.take_header.ensures.step c.take_header.ensures.line c.take_header.ensures.bad
