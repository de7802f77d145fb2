use Rattle.mseed_join.proofs.Associative.{joint_assoc}
use Rattle.mseed_join.proofs.JoinedParts.{joint_one, unit_before, unit_after}
use Rattle.mseed_join.proofs.part_law.joining_laws.Goals as goal

pub returns : goal.returns
returns c =
    record { one = joint_one; unit_before = unit_before; unit_after = unit_after; associative = joint_assoc }
