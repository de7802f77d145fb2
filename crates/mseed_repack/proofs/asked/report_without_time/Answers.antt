use Rattle.std.proofs.Common.{◌∙◌}
use Rattle.mseed_repack.proofs.AskedFor.{none_lacks, some_lack}
use Rattle.mseed_repack.proofs.asked.report_without_time.Goals as goal

pub returns-else-count-gt0 : goal.returns-else-count-gt0
returns-else-count-gt0 g c = none_lacks c.args.count (g.E.Sink.written c.args.errors.now) c.if-count-gt0.false

pub returns-then-count-gt0 : goal.returns-then-count-gt0
returns-then-count-gt0 g c =
    let a1 = rw c.new-line.ensures at c.put_labelled.ensures.text in
    let a2 = rw a1 at c.put.ensures.text in
    some_lack _ _ _ c.if-count-gt0.true (rw (c.as_slice.ensures ∙ a2) at c.report.ensures)
