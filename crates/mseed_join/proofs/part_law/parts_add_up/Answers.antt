use Rattle.mseed_join.proofs.JoinedParts.{joint_is}
use Rattle.mseed_join.proofs.part_law.parts_add_up.Goals as goal

pub returns : goal.returns
returns c = joint_is c.one_finding.ensures.of_one
