use Rattle.std.proofs.Common.{◌∙◌, Ok, None, Some, append-nil, sym}
use Rattle.mseed_record.specs.Viewing.{view_of}
use Rattle.mseed_audit.proofs.Reporting.{judged_asked, judged_passed}
use Rattle.mseed_audit.proofs.summary.judge.Goals as goal

pub returns-in_default-2 : goal.returns-in_default-2
returns-in_default-2 g c = λ first now bytes views shown judged.
    judged_asked shown judged (view_of c.args.view.now) c.add_judged.new.self {E = Unit {0}} (Ok tt) None
    (g.P.Report.stands first c.args.report.now now) (sym c.answer-answer.ensures ∙ c.in-AskedFor.is)
    c.in_ok-why.ensures.among
    (λ ps count is. rw c.in_default-2.is at (c.in_ok-why.ensures.found_among ps count is))
    (λ reported before. rw (append-nil reported) before)

pub returns-in-AskedFor : goal.returns-in-AskedFor
returns-in-AskedFor g c = λ first now bytes views shown judged.
    judged_asked shown judged (view_of c.args.view.now) c.add_judged.new.self c.add.result (Some c.in-Some.why)
    (g.P.Report.stands first c.add.new.self now) (sym c.answer-answer.ensures ∙ c.in-AskedFor.is)
    c.in_ok-why.ensures.among
    (λ ps count is. rw c.in-Some.is at (c.in_ok-why.ensures.found_among ps count is))
    (λ reported before. rw (c.added-number.ensures ∙ c.in_ok-why.ensures.number)
    at (c.add.ensures first now reported before))

pub returns : goal.returns
returns g c = λ first now bytes views shown judged.
    judged_passed shown judged (view_of c.args.view.now) c.pass.new.self c.add-2.new.self c.answer-answer.result
    c.answer-answer.ensures c.in_default.not-AskedFor c.pass.ensures.passes c.add-2.ensures
