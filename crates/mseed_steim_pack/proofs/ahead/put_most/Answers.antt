use Rattle.std.proofs.Common.{arith}
use Rattle.mseed_steim_pack.proofs.Held.{near_small}
use Rattle.mseed_steim_pack.proofs.ahead.put_most.Goals as goal

pub put_most_two-requires : goal.put_most_two-requires
put_most_two-requires g c = search (arith, near_small)
