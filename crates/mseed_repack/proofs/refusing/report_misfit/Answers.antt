use Rattle.std.proofs.Common.{◌∙◌}
use Rattle.mseed_repack.proofs.refusing.report_misfit.Goals as goal

pub returns : goal.returns
returns g c =
    let both = rw c.put_misfit.ensures.text at c.put_misfit_more.ensures in
    rw (c.as_slice.ensures ∙ both) at c.report.ensures
