use Rattle.std.proofs.Common.{◌++◌, ◌∙◌, List, ℕ, ap, take_all}
use Rattle.mseed_audit.specs.declared.verdict.Verdict.{Verdict}
use Rattle.mseed_audit.specs.Text.{verdict_line, verdict_lines}
use Rattle.mseed_audit.proofs.OneMore.{lines_snoc, text_more}
use Rattle.mseed_audit.proofs.text.push_verdicts.Goals as goal

pub loop-codes-preserved : goal.loop-codes-preserved
loop-codes-preserved g c =
    text_more (λ v. verdict_line v.0 v.1) verdict_lines lines_snoc c.args.verdicts.now c.loop-codes.codes-index
    c.loop-codes-item.result _ _ _ c.loop-codes-test.true c.loop-codes-item.is c.loop-codes.invariant
    c.in_ok-push_verdict_line.ensures.ok

pub returns : goal.returns
returns g c =
    c.loop-codes.invariant ∙ ap (λ (vs : List (List ℕ × Verdict)). c.args.text.now.items ++ verdict_lines vs)
    (take_all c.loop-codes.codes-index c.args.verdicts.now c.loop-codes-test.false)
