use Rattle.std.proofs.Common.{◌∙◌, List, ℕ, subst}
use Rattle.mseed_stream.specs.LineWritten.{WritesLine}
use Rattle.mseed.proofs.refusal.refuse_line.Goals as goal

pub returns-clause-reported : goal.returns-clause-reported
returns-clause-reported g c =
    let a1 = rw c.new-line.ensures at c.put_labelled.ensures.text in
    let a2 = rw a1 at c.put.ensures.text in
    let a3 = rw a2 at c.put_flaw.ensures.text in
    let a4 = rw a3 at c.put-2.ensures.text in
    subst (λ (line : List ℕ). WritesLine line (g.E.Sink.written c.args.errors.now)
    (g.E.Sink.written c.report.new.errors))
    (c.as_slice.ensures ∙ a4) c.report.ensures
