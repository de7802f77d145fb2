use Rattle.mseed_steim.proofs.LaneSums.{shl_sum}
use Rattle.mseed_steim.proofs.lanes.shifted.Goals as goal

pub returns : goal.returns
returns c = shl_sum c.args.bits 4 c.args.a c.fits-a.0
