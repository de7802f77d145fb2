-- The samples and leap seconds of records, with one more.
use Rattle.std.proofs.Common.{◌≡◌, ℕ, ℤ, ◌+◌, ◌<◌, List, [], ◌∷◌, ◌++◌, Option, length, refl, sym, ap, ◌∙◌}
use Rattle.std.proofs.Common.{append_assoc, append-nil, arith}
use Rattle.std.proofs.lemmas.List.{length-append}
use Rattle.mseed_time.specs.declared.order.Order.{Order}
use Rattle.mseed_time.specs.declared.outcome.LeapStep.{LeapStep}
use Rattle.mseed_time.specs.declared.rate.Rate.{Rate}
use Rattle.mseed_record.specs.View.{View, leap_of}
use Rattle.mseed_steim.specs.declared.form.Form.{Form}
use Rattle.mseed_steim.specs.declared.form.Form.TheVariants.{Integers, Frames}
use Rattle.mseed_steim.specs.Samples.{IsPayloadReading}
use Rattle.mseed_steim.specs.Reading.{count_of, IsWhole}
use Rattle.mseed_audit.specs.Judging.{step_in}
use Rattle.mseed_audit.specs.Series.{Trace, AreJoined, none, one, step_at, steps_from, HoldsAll}

counted : (form : Form) (order : Order) (payload : List ℕ) (n : ℕ) (samples : List ℤ)
    → IsPayloadReading form order payload n samples → length samples ≡ n
counted (Integers width) order payload n samples h = h.0
counted (Frames scheme) order payload n samples h = h.1.count

-- a reading has as many samples as the record says
pub count_is : (v : View) (samples : List ℤ) → IsWhole v samples → length samples ≡ count_of v
count_is v samples h = counted h.0.form v.payload_order _ (count_of v) samples h.0.spelled

-- and they are some
pub some_more : (v : View) (old new : List ℤ) → (more : List ℤ) × (IsWhole v more × (new ≡ old ++ more))
    → length old < length new
some_more v old new (more, (whole, e)) =
    rw e (omega (arith, count_is v more whole, whole.0.some, length-append old more))

joined_more : (vs : List View) (samples : List ℤ) (v : View) (more : List ℤ) → AreJoined vs samples → IsWhole v more
    → AreJoined (vs ++ v ∷ []) (samples ++ more)
joined_more [] _ v more none h = rw append-nil at (one v [] more [] h none)
joined_more (w ∷ vs) _ v more (one _ _ first rest is later) h =
    rw append_assoc (one w (vs ++ v ∷ []) first (rest ++ more) is (joined_more vs rest v more later h))

-- the leap second of one more record stands after all samples
steps_next : (place : ℕ) (vs : List View) (samples : List ℤ) (v : View) → AreJoined vs samples
    → steps_from place (vs ++ v ∷ []) ≡ steps_from place vs ++ step_at (place + length samples + count_of v)
    (step_in (leap_of v.bytes))
steps_next place [] _ v none =
    append-nil (step_at (place + count_of v) (step_in (leap_of v.bytes)))
    ∙ ap (λ (n : ℕ). step_at n (step_in (leap_of v.bytes))) (omega arith)
steps_next place (w ∷ vs) _ v (one _ _ first rest is later) =
    let at : place + count_of w + length rest + count_of v ≡ place + length (first ++ rest) + count_of v =
    omega (arith, length-append first rest, count_is w first is) in
    rw (steps_next (place + count_of w) vs rest v later, at) (sym (append_assoc
    (step_at (place + count_of w) (step_in (leap_of w.bytes))) (steps_from (place + count_of w) vs) _))

-- a series with a further record's samples, and its leap second
pub holds_more : (codes : List ℕ) (start : ℤ) (rate : Rate) (vs : List View) (v : View) (more : List ℤ)
    (step : Option LeapStep) (old new : Trace) → HoldsAll codes start rate vs old
    → IsWhole v more → step ≡ step_in (leap_of v.bytes)
    → new ≡ record old {
      samples = old.samples ++ more;
      steps = old.steps ++ step_at (length old.samples + length more) step;
    }
    → HoldsAll codes start rate (vs ++ v ∷ []) new
holds_more codes start rate vs v more step old new before whole step_is e =
    let at : 0 + length old.samples + count_of v ≡ length old.samples + length more =
    omega (arith, count_is v more whole) in
    rw e (record {
      codes_is = before.codes_is;
      start_is = before.start_is;
      rate_is = before.rate_is;
      samples = joined_more vs old.samples v more before.samples whole;
      steps = rw (before.steps, steps_next 0 vs old.samples v before.samples, at, step_is) refl;
    })

-- a series without samples
pub holds_none : (codes : List ℕ) (start : ℤ) (rate : Rate) (samples : List ℤ) (s : Trace) → samples ≡ []
    → s ≡ record { codes = codes; start = start; rate = rate; samples = samples; steps = [] }
    → HoldsAll codes start rate [] s
holds_none codes start rate samples s empty e = rw (e, empty) (record {
  codes_is = refl;
  start_is = refl;
  rate_is = refl;
  samples = none;
  steps = refl;
})
