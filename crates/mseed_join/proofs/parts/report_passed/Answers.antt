use Rattle.std.proofs.Common.{[], ◌≡◌, ◌++◌, ◌∙◌, List, ℕ, append_assoc, codes, decimal, subst}
use Rattle.mseed_stream.specs.Device.{BytesWritten}
use Rattle.mseed_stream.specs.LineWritten.{WritesLine}
use Rattle.mseed_text.specs.Fault.{fault_line}
use Rattle.mseed_join.specs.Reached.{AreReported}
use Rattle.mseed_join.proofs.parts.report_passed.Goals as goal

-- what was put, one after another
joined : (words part gap fault : List ℕ) → ((words ++ part) ++ gap) ++ fault ≡ words ++ (part ++ gap ++ fault)
joined words part gap fault = simp append_assoc

pub returns-in-Passed : goal.returns-in-Passed
returns-in-Passed g c =
    let old : BytesWritten = g.E.Sink.written c.args.errors.now in
    let new : BytesWritten = g.E.Sink.written c.report.new.errors in
    let a1 = rw c.new-line.ensures at c.put_labelled.ensures.text in
    let a2 = rw a1 at c.put.ensures.text in
    let a3 = rw a2 at c.put_fault_line.ensures.text in
    let wrote = subst (λ (line : List ℕ). WritesLine line old new) (c.as_slice.ensures ∙ a3
    ∙ joined (codes "mseed: part ") (decimal c.in-Passed.part) (codes " ") (fault_line c.in-Passed.fault))
    c.report.ensures in
    rw c.in-Passed.is (AreReported.one _ [] _ _ _ wrote (AreReported.none _))

pub returns-in-Nothing : goal.returns-in-Nothing
returns-in-Nothing g c = rw c.in-Nothing.is (AreReported.none _)

pub returns-in-Border : goal.returns-in-Border
returns-in-Border g c = rw c.in-Border.is (AreReported.none _)
