use Rattle.std.proofs.Common.{arith}
use Rattle.std.proofs.lemmas.Int.{to_z-of_z}
use Rattle.std.proofs.lemmas.List.{length-take-le, take-take}
use Rattle.mseed_steim.proofs.Folded.{length-with_first}
use Rattle.mseed_steim.proofs.Far.{steps_kept}
use Rattle.mseed_steim.proofs.Summed.{put_next}
use Rattle.mseed_steim.proofs.keep.StepsKeeper.keep_near.Goals as goal

pub returns-clause-put : goal.returns-clause-put
returns-clause-put c = search (arith, length-take-le, length-with_first, put_next, steps_kept, take-take, to_z-of_z)
