use Rattle.std.proofs.Common.{sym, ◌∙◌}
use Rattle.mseed_steim.proofs.LaneSums.{minus_sum}
use Rattle.mseed_steim.proofs.lanes.minus.Goals as goal

pub returns : goal.returns
returns c = minus_sum c.args.a c.args.b (c.fits-a.0 ∙ sym c.fits-b.0) c.fits-b.1
