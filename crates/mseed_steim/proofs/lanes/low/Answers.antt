use Rattle.std.proofs.lemmas.Simd.{zip2_splat}
use Rattle.std.proofs.Common.{arith}
use Rattle.mseed_steim.proofs.LaneTables.{low_ok}
use Rattle.mseed_steim.proofs.lanes.low.Goals as goal

pub returns : goal.returns
returns c = search (arith, low_ok, zip2_splat)
