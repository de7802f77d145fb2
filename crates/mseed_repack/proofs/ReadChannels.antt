-- A channel's samples and leap seconds, record by record.
use Rattle.std.proofs.lemmas.List.{length-append}
use Rattle.mseed_audit.proofs.Joined.{count_is}
use Rattle.std.proofs.Common.{◌≡◌, ℕ, ℤ, ◌+◌, ◌<◌, ◌≤◌, ◌++◌, List, [], ◌∷◌, length}
use Rattle.std.proofs.Common.{take, get_or, map, refl, ap, ◌∙◌, arith, append-nil, append_assoc, Option}
use Rattle.mseed_time.specs.declared.outcome.LeapStep.{LeapStep}
use Rattle.mseed_record.specs.View.{View, leap_of}
use Rattle.mseed_record.specs.Viewing.{view_of}
use Rattle.mseed_record.specs.declared.view.RecordView.{RecordView}
use Rattle.mseed_steim.specs.Reading.{count_of, IsWhole}
use Rattle.mseed_audit.specs.Judging.{step_in}
use Rattle.mseed_audit.specs.Series.{AreJoined, AreSteps, none, one, step_at, steps_from}
use Rattle.mseed_audit.proofs.Places.{steps_after, steps_kept}
use Rattle.mseed_repack.proofs.Runs.{passed_with, samples_append}
use Rattle.mseed_repack.specs.private.Reading.{IsRead, channel_in, samples_of, step_count, steps_of}

pub no_step : (o : Option LeapStep) (m : ℕ) → length (step_at 0 o) ≡ 0 → step_at m o ≡ []
no_step o m h = grind (arith)

pub steps_append : (vs ws : List View) → steps_of (vs ++ ws) ≡ steps_of vs + steps_of ws
steps_append [] ws = omega arith
steps_append (v ∷ vs) ws = let rest = steps_append vs ws in omega (arith, rest)

pub steps_in : (key : List ℕ) (vs : List View) → steps_of (channel_in key vs) ≤ steps_of vs
steps_in key [] = omega arith
steps_in key (v ∷ vs) = grind (arith, steps_in key vs)

pub steps_next : (rs : List RecordView) (n : ℕ) (r : RecordView) → n < length rs → r ≡ get_or rs n r
    → steps_of (map view_of (take (n + 1) rs)) ≡ steps_of (map view_of (take n rs)) + step_count (view_of r)
steps_next rs n r lt is =
    omega (arith, ap steps_of (passed_with rs n r lt is), steps_append (map view_of (take n rs)) (view_of r ∷ []))

pub read_none : IsRead 0 0 [] [] []
read_none = record {
  are = record { samples_are = none; steps_are = refl };
  places = tt;
  size = refl;
  samples_count = refl;
  steps_count = refl;
}

-- the samples and the leap seconds of records, and of others after them
pub joined_append : (vs ws : List View) (xs ys : List ℤ) → AreJoined vs xs → AreJoined ws ys
    → AreJoined (vs ++ ws) (xs ++ ys)
joined_append _ ws _ ys none back = back
joined_append _ ws _ ys (one v vs samples rest whole behind) back =
    rw append_assoc (one v (vs ++ ws) samples (rest ++ ys) whole (joined_append vs ws rest ys behind back))

steps_onward : (place : ℕ) (vs ws : List View)
    → steps_from place (vs ++ ws) ≡ steps_from place vs ++ steps_from (place + samples_of vs) ws
steps_onward place [] ws = ap (λ (n : ℕ). steps_from n ws) (omega arith)
steps_onward place (v ∷ vs) ws = grind (arith, append_assoc, steps_onward (place + count_of v) vs ws)

places_more : (o : Option LeapStep) (m n : ℕ) (old new : List (ℕ × LeapStep)) → m < n → AreSteps m old
    → new ≡ old ++ step_at n o → AreSteps n new
places_more o m n old new h h2 h3 = grind (arith, steps_kept, append-nil, steps_after)

-- one more record
pub read_more : (vs : List View) (v : View) (m k m' k' : ℕ) (xs xs' s : List ℤ) (ss ss' : List (ℕ × LeapStep))
    → IsRead m k xs ss vs → IsWhole v s → xs' ≡ xs ++ s → ss' ≡ ss ++ step_at m' (step_in (leap_of v.bytes))
    → m' ≡ m + count_of v → k' ≡ k + step_count v → IsRead m' k' xs' ss' (vs ++ v ∷ [])
read_more vs v m k m' k' xs xs' s ss ss' h whole samples steps count bears =
    let some = whole.0.some in
    record {
      are = record {
        samples_are = rw samples
            (joined_append vs (v ∷ []) xs s h.are.samples_are (rw append-nil at (one v [] s [] whole none)));
        steps_are = steps ∙ grind (arith, h, append-nil, steps_onward 0 vs (v ∷ []));
      };
      places = places_more _ m m' ss ss' (omega (arith, count, some)) h.places steps;
      size = rw samples (omega (arith, length-append xs s, h.size, count, count_is v s whole));
      samples_count = omega (arith, count, h.samples_count, samples_append vs (v ∷ []));
      steps_count = omega (arith, bears, h.steps_count, steps_append vs (v ∷ []));
    }
