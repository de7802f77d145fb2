use Rattle.std.proofs.Common.{sym, ◌∙◌}
use Rattle.mseed_steim.proofs.LaneSums.{plus_sum}
use Rattle.mseed_steim.proofs.lanes.plus.Goals as goal

pub returns : goal.returns
returns c = plus_sum c.args.a c.args.b (c.fits-a.0 ∙ sym c.fits-b.0)
