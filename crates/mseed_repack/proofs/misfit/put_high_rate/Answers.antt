use Rattle.std.proofs.Common.{append_assoc}
use Rattle.mseed_repack.proofs.misfit.put_high_rate.Goals as goal

pub returns : goal.returns
returns c = simp (c.put-2.ensures.text, c.put_ratio.ensures.text, c.ratio.ensures, c.put.ensures.text, append_assoc)
