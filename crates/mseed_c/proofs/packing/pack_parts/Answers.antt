use Rattle.std.proofs.Common.{◌≡◌, ℕ, List, [], ◌∷◌, Option, Some, None, length, refl, sym, subst}
use Rattle.std.specs.Prelude.{MatchOption}
use Rattle.std.specs.Option.{option_to_list}
use Rattle.mseed_time.specs.declared.outcome.LeapStep.{LeapStep}
use Rattle.mseed_audit.specs.Series.{Trace, AreSteps}
use Rattle.mseed_c.specs.Heading.{HasLeap, without_leap, with_leap}
use Rattle.mseed_c.specs.Packed.{taken}
use Rattle.mseed_c.specs.declared.heading.Heading.{Heading}
use Rattle.mseed_c.proofs.packing.pack_parts.Goals as goal

-- an option as a slice of none or one
as_list : (o : Option (ℕ × LeapStep)) (xs : List (ℕ × LeapStep)) → MatchOption o (xs ≡ []) (λ x. xs ≡ x ∷ [])
    → xs ≡ option_to_list o
as_list None xs e = e
as_list (Some x) xs e = e

-- the leap second of a heading is one after some of the samples
leap_fits : (h : Heading) (samples : ℕ) (steps : List (ℕ × LeapStep)) → HasLeap h samples steps
    → AreSteps samples steps
leap_fits h samples _ (without_leap none) = tt
leap_fits h samples _ (with_leap step kind fits) = fits

leap_is : (h : Heading) (samples : ℕ) (o : Option (ℕ × LeapStep)) (steps : List (ℕ × LeapStep))
    → HasLeap h samples (option_to_list o) → MatchOption o (steps ≡ []) (λ x. steps ≡ x ∷ []) → HasLeap h samples steps
leap_is h samples o steps is slice =
    subst (λ (xs : List (ℕ × LeapStep)). HasLeap h samples xs) (sym (as_list o steps slice)) is

pub pack_series-requires : goal.pack_series-requires
pack_series-requires c = leap_fits c.args.heading.now (length c.args.samples.now) c.as_slice.result.now
    (leap_is c.args.heading.now (length c.args.samples.now) c.args.parts.now.step c.as_slice.result.now c.requires.steps
    c.as_slice.ensures)

pub returns : goal.returns
returns c =
    let s : Trace = record {
      codes = c.of_key.result;
      start = c.args.parts.now.start;
      rate = c.args.parts.now.rate;
      samples = c.args.samples.now;
      steps = c.as_slice.result.now;
    } in
    taken s c.args.parts.now.options c.pack_series.result (record {
      codes = c.of_key.ensures;
      start = c.requires.start;
      factor = c.requires.factor;
      multiplier = c.requires.multiplier;
      samples_are = refl;
      steps = leap_is c.args.heading.now (length c.args.samples.now) c.args.parts.now.step c.as_slice.result.now
          c.requires.steps c.as_slice.ensures;
    }) c.requires.options c.pack_series.ensures
