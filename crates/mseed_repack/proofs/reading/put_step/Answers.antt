use Rattle.std.proofs.Common.{◌≡◌, ◌++◌, ◌∙◌, ℕ, List, append-nil, ap, arith, length, sym, take}
use Rattle.mseed_time.specs.declared.outcome.LeapStep.{LeapStep}
use Rattle.mseed_record.specs.View.{leap_of}
use Rattle.mseed_record.specs.Viewing.{view_of}
use Rattle.mseed_audit.specs.Judging.{step_in}
use Rattle.mseed_audit.specs.Series.{step_at}
use Rattle.mseed_repack.proofs.ReadChannels.{no_step}
use Rattle.mseed_repack.proofs.reading.put_step.Goals as goal

pub returns-then-count-steps-clause-steps : goal.returns-then-count-steps-clause-steps
returns-then-count-steps-clause-steps c =
    let ss = c.args.steps.now in
    let v = view_of c.args.view.now in
    let step = step_in (leap_of v.bytes) in
    let none : length (step_at 0 step) ≡ 0 = omega (arith, c.requires, c.if-count-steps.true) in
    sym (append-nil (take c.args.count ss))
    ∙ ap (λ (more : List (ℕ × LeapStep)). take c.args.count ss ++ more) (sym (no_step step c.args.place none))
