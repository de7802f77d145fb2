use Rattle.mseed_join.proofs.JoinedParts.{part_one}
use Rattle.mseed_join.proofs.part_law.one_part.Goals as goal

pub returns : goal.returns
returns c = part_one c.one_finding.ensures.of_one c.one_finding.ensures.of_all
