use Rattle.std.proofs.Common.{ℤ, ◌+ℤ◌, arith, refl, ap, ◌∙◌}
use Rattle.mseed_time.specs.Join.{step_of}
use Rattle.mseed_record.specs.View.{step_in}
use Rattle.mseed_record.specs.Viewing.{view_of}
use Rattle.mseed_repack.proofs.Drifts.{summed}
use Rattle.mseed_repack.proofs.Steps.{stretch_more}
use Rattle.mseed_repack.proofs.stretch.Stretch.with.Goals as goal

pub returns-clause-stretch : goal.returns-clause-stretch
returns-clause-stretch c =
    let s = c.args.self.now in
    let step = c.step_micros.ensures.value ∙ ap step_of (c.step.ensures ∙ ap step_in c.leap.ensures) in
    λ vs is. stretch_more s _ vs (view_of c.args.view.now) is (record {
      codes_is = refl;
      start_is = refl;
      rate_is = refl;
      records_is = refl;
      samples_is = omega (arith, c.samples.ensures, c.from.ensures);
      added_is = summed s.added c.step_micros.result s.records s.added_low s.added_high s.few
          c.step_micros.ensures.low c.step_micros.ensures.high ∙ ap (λ (z : ℤ). s.added +ℤ z) step;
      closed_is = c.has_both.ensures;
    })
