use Rattle.std.proofs.Common.{ℤ, List, length, refl, ap, sym, ◌∙◌}
use Rattle.mseed_pack.specs.Fitting.{too_fast}
use Rattle.mseed_pack.proofs.fitting.head_misfit.Goals as goal

pub returns-then-is_too_fast-clause-some : goal.returns-then-is_too_fast-clause-some
returns-then-is_too_fast-clause-some c = λ xs o size.
    too_fast (λ e. c.if-head-eq0.false (sym size ∙ ap (λ (zs : List ℤ). length zs) e)) (c.if-is_too_fast.ensures.0 refl)
