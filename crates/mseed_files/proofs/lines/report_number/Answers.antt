use Rattle.std.proofs.Common.{◌∙◌}
use Rattle.mseed_files.proofs.lines.report_number.Goals as goal

pub returns : goal.returns
returns g c =
    let a1 = rw c.new-line.ensures at c.put.ensures.text in
    let a2 = rw a1 at c.put_count.ensures.text in
    let a3 = rw a2 at c.put-2.ensures.text in
    rw (c.as_slice.ensures ∙ a3) at c.report.ensures
