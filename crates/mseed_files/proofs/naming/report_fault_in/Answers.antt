use Rattle.std.proofs.Common.{◌∙◌}
use Rattle.mseed_files.proofs.naming.report_fault_in.Goals as goal

pub returns : goal.returns
returns g c =
    let a1 = rw c.new-after.ensures at c.put_labelled.ensures.text in
    let a2 = rw a1 at c.put.ensures.text in
    rw (c.as_slice.ensures ∙ a2) at c.report_named.ensures
