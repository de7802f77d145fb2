use Rattle.std.proofs.Common.{arith}
use Rattle.std.proofs.lemmas.Int.{to_z-of_z}
use Rattle.std.proofs.lemmas.List.{length-take-le}
use Rattle.std.proofs.lemmas.Simd.{length-chunk}
use Rattle.mseed_steim.proofs.Far.{sums_kept}
use Rattle.mseed_steim.proofs.Summed.{length-sums, put_next}
use Rattle.mseed_steim.proofs.keep.SamplesKeeper.keep_near.Goals as goal

pub put_sums-requires-clause-places : goal.put_sums-requires-clause-places
put_sums-requires-clause-places c = search (arith, length-chunk)

pub returns-clause-put : goal.returns-clause-put
returns-clause-put c = search (arith, length-chunk, length-sums, length-take-le, put_next, sums_kept, to_z-of_z)
