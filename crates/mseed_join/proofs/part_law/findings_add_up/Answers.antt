use Rattle.mseed_join.proofs.PartMerging.{findings_merge}
use Rattle.mseed_join.proofs.Rising.{merged_one}
use Rattle.mseed_join.proofs.part_law.findings_add_up.Goals as goal

pub returns : goal.returns
returns c = record { merged = findings_merge c.one_finding.ensures.of_one; one = merged_one }
