use Rattle.std.proofs.Common.{◌∙◌}
use Rattle.mseed_files.proofs.lines.report_fault.Goals as goal

pub returns : goal.returns
returns g c =
    let a1 = rw c.new-line.ensures at c.put.ensures.text in
    let a2 = rw a1 at c.put_fault_line.ensures.text in
    rw (c.as_slice.ensures ∙ a2) at c.report.ensures
