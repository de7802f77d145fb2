use Rattle.std.proofs.Common.{◌∙◌}
use Rattle.mseed_repack.proofs.refusing.report_left_broken.Goals as goal

pub returns : goal.returns
returns g c = rw (c.as_slice.ensures ∙ c.put_broken.ensures.text) at c.report.ensures
