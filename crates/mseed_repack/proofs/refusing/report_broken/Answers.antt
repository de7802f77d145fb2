use Rattle.std.proofs.Common.{◌∙◌}
use Rattle.mseed_repack.proofs.refusing.report_broken.Goals as goal

pub returns : goal.returns
returns g c =
    let both = rw c.put_broken.ensures.text at c.put_finding.ensures in
    rw (c.as_slice.ensures ∙ both) at c.report.ensures
