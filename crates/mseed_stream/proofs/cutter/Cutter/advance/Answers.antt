use Rattle.std.proofs.Common.{◌∙◌, sym, ap}
use Rattle.mseed_stream.specs.CutterState.{CutterState}
use Rattle.mseed_stream.proofs.AfterFound.{along_found, next_answer, same_answer}
use Rattle.mseed_stream.proofs.cutter.Cutter.advance.Goals as goal

pub returns-in-Some-clause-answer : goal.returns-in-Some-clause-answer
returns-in-Some-clause-answer g c =
    let same = sym (ap (λ (s : CutterState). s.answer) c.self.view_is) ∙ c.in-Some.is in
    rw c.answer.ensures (same_answer c.in-Some.ending c.args.self.now _ _ c.requires same)

pub returns-clause-along : goal.returns-clause-along
returns-clause-along g c =
    let open_still = sym (ap (λ (s : CutterState). s.answer) c.self.view_is) ∙ c.in_default.is in
    rw c.pass_found.ensures.after (along_found _ _ _ _ _ open_still (rw c.forget.ensures at c.cut-found.ensures.cut))

pub returns-clause-answer : goal.returns-clause-answer
returns-clause-answer g c =
    let open_still = sym (ap (λ (s : CutterState). s.answer) c.self.view_is) ∙ c.in_default.is in
    rw c.pass_found.ensures.answer (next_answer _ _ c.args.self.now _ _ _ _ _ _ _ c.requires.read open_still
    (rw c.forget.ensures at c.cut-found.ensures.cut) c.cut-found.ensures.reads)
