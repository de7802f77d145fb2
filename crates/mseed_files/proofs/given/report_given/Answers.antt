use Rattle.std.proofs.Common.{◌∙◌}
use Rattle.mseed_files.proofs.given.report_given.Goals as goal

pub returns : goal.returns
returns g c =
    let a1 = rw c.new-line.ensures at c.put.ensures.text in
    let a2 = rw a1 at c.put-2.ensures.text in
    let a3 = rw a2 at c.put_shown.ensures.text in
    let a4 = rw a3 at c.put-3.ensures.text in
    let a5 = rw a4 at c.put-4.ensures.text in
    rw (c.as_slice.ensures ∙ a5) at c.report.ensures
