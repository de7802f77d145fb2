use Rattle.std.proofs.Common.{arith}
use Rattle.std.proofs.lemmas.Int.{to_z-of_z}
use Rattle.mseed_steim.proofs.Ended.{ends_differ, lacking_fault, walk_fault}
use Rattle.mseed_steim.proofs.check.ends_of_walk.Goals as goal

pub returns-in-Ok-clause-met : goal.returns-in-Ok-clause-met
returns-in-Ok-clause-met c = search (arith, to_z-of_z)

pub returns-in-Ok-2-clause-fault : goal.returns-in-Ok-2-clause-fault
returns-in-Ok-2-clause-fault c = search (arith, ends_differ, to_z-of_z)

pub returns-in-Some-clause-fault : goal.returns-in-Some-clause-fault
returns-in-Some-clause-fault c = grind (arith, lacking_fault)

pub returns-in-None-clause-fault : goal.returns-in-None-clause-fault
returns-in-None-clause-fault c = grind (arith, walk_fault)
