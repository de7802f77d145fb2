use Rattle.std.proofs.Common.{◌∙◌, ℕ, ℤ, pos, ap, arith, FitsSigned}
use Rattle.std.specs.Prelude.{int_le}
use Rattle.std.proofs.lemmas.Int.{ints, to_z-of_z}
use Rattle.mseed_time.specs.Join.{drift_of}
use Rattle.mseed_select.proofs.Asking.{lasts_is}
use Rattle.mseed_select.proofs.selector.is_sampled_to.Goals as goal
use mir.Syntax.{w128}

pub returns : goal.returns
returns c =
    let miss : ℤ = c.drift.result in
    let fits : FitsSigned w128 miss = omega (arith, ints, c.drift.ensures.low, c.drift.ensures.high) in
    ap (λ (m : ℤ). int_le m (pos 0)) (to_z-of_z w128 miss fits)
    ∙ lasts_is c.args.start c.args.samples c.args.rate c.args.instant miss (c.drift.ensures.value
    ∙ ap (λ (n : ℕ). drift_of c.args.start n c.args.rate (pos 0) c.args.instant)
    (c.from.ensures ∙ c.saturating_sub.ensures))
