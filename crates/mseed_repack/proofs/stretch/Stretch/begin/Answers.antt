use Rattle.std.proofs.Common.{rules, arith, refl, ap, ◌∙◌}
use Rattle.std.proofs.lemmas.Int.{ints}
use Rattle.mseed_time.specs.Join.{step_of}
use Rattle.mseed_record.specs.View.{step_in}
use Rattle.mseed_repack.proofs.stretch.Stretch.begin.Goals as goal

pub returns-clause-stretch : goal.returns-clause-stretch
returns-clause-stretch c =
    let step = c.step_micros.ensures.value ∙ ap step_of (c.step.ensures ∙ ap step_in c.leap.ensures) in
    record {
      codes_is = c.codes.ensures;
      start_is = search rules;
      rate_is = search rules;
      factor_is = search rules;
      multiplier_is = search rules;
      records_is = refl;
      samples_is = omega (arith, c.samples.ensures, c.from.ensures);
      added_is = omega (arith, ints, step, c.step_micros.ensures.low, c.step_micros.ensures.high);
      closed_is = c.has_both.ensures;
    }
