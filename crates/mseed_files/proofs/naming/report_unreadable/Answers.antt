use Rattle.std.proofs.Common.{◌∙◌}
use Rattle.mseed_files.proofs.naming.report_unreadable.Goals as goal

pub returns : goal.returns
returns g c =
    let why = c.as_bytes.ensures.value ∙ c.text.ensures.text in
    let a1 = rw c.new-after.ensures at c.put.ensures.text in
    let a2 = rw (a1, why) at c.put-2.ensures.text in
    let a3 = rw a2 at c.put-3.ensures.text in
    rw (c.as_slice.ensures ∙ a3) at c.report_named.ensures
