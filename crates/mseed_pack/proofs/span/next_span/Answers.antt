use Rattle.std.proofs.Common.{◌≡◌, refl, sym, ap, ◌∙◌, arith, ◌+ℤ◌, get_or, Some}
use Rattle.std.proofs.lemmas.Int.{ints}
use Rattle.mseed_time.specs.declared.outcome.LeapStep.{LeapStep}
use Rattle.mseed_time.specs.declared.outcome.LeapStep.TheVariants.{Plus, Minus}
use Rattle.mseed_time.specs.Join.{step_of}
use Rattle.mseed_pack.proofs.Steps.{next_is}
use Rattle.mseed_pack.proofs.span.next_span.Goals as goal
use Rattle.mseed_pack.proofs.span.next_span.Goals.{in-Plus, in-Minus}

moved : (c : goal.After-end_of)
    → c.match-steps-span.added ≡ c.args.span.added +ℤ step_of
    (Some (get_or c.args.steps.now c.args.span.passed (0, Plus)).1)
moved c =
    elim c.match-steps-span.branch [
      | in-Plus w ↦
          let sum : c.match-steps-span.added ≡ c.args.span.added +ℤ step_of (Some Plus) =
          omega (arith, ints, w.added-is, c.match-steps-span.added-is, c.requires.span.added_bound) in
          sum ∙ ap (λ (k : LeapStep). c.args.span.added +ℤ step_of (Some k)) (sym w.in-Plus.is)
      | in-Minus w ↦
          let sum : c.match-steps-span.added ≡ c.args.span.added +ℤ step_of (Some Minus) =
          omega (arith, ints, w.added-is, c.match-steps-span.added-is, c.requires.span.added_bound) in
          sum ∙ ap (λ (k : LeapStep). c.args.span.added +ℤ step_of (Some k)) (sym w.in-Minus.is)
    ]

pub returns-clause-span : goal.returns-clause-span
returns-clause-span c = next_is c.requires.span _ (0, Plus) c.requires.more refl refl
    (c.match-steps-span.added-is ∙ moved c) c.end_of.ensures
