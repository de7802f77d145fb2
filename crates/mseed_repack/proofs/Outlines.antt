-- What is known of a channel's samples, record by record.
use Rattle.std.proofs.Common.{◌≡◌, ℕ, ℤ, ◌+◌, List, [], ◌∷◌, ◌++◌, take, sym, refl}
use Rattle.std.proofs.Common.{arith, append-nil, append_assoc}
use Rattle.std.specs.List.{AllByRecursion}
use Rattle.std.proofs.lemmas.List.Elements.{All-append, All-nil}
use Rattle.mseed_time.specs.declared.outcome.LeapStep.{LeapStep}
use Rattle.mseed_record.specs.View.{View, leap_of}
use Rattle.mseed_steim.specs.Reading.{count_of, IsWhole}
use Rattle.mseed_steim.specs.Spelling.{IsWithin}
use Rattle.mseed_audit.specs.Follows.{IsSound}
use Rattle.mseed_audit.specs.Judging.{step_in}
use Rattle.mseed_audit.specs.Series.{step_at}
use Rattle.mseed_repack.specs.private.Outline.{IsKnown, IsOutline}
use Rattle.mseed_repack.specs.private.Reading.{samples_of, step_count, steps_of}
use Rattle.mseed_repack.specs.declared.outline.Nearness.{Nearness}
use Rattle.mseed_repack.specs.declared.outline.Nearness.TheVariants.{Unknown}
use Rattle.mseed_repack.proofs.Near.{whole_within}
use Rattle.mseed_repack.proofs.ReadChannels.{no_step, read_more, read_none}
use Rattle.mseed_repack.proofs.Runs.{samples_append}

pub outlined_none : (before : Nearness) (steps : List (ℕ × LeapStep)) → IsKnown before []
    → IsOutline [] 0 0 before steps
outlined_none before steps h = search (arith, read_none, All-nil)

-- one more record
pub outlined_more : (vs : List View) (v : View) (m k m' k' : ℕ) (near near' : Nearness) (s : List ℤ)
    (ss ss' : List (ℕ × LeapStep)) → IsOutline vs m k near ss → IsWhole v s → m' ≡ m + count_of v
    → take k' ss' ≡ take k ss ++ step_at m' (step_in (leap_of v.bytes)) → k' ≡ k + step_count v
    → ((xs s : List ℤ) → IsKnown near xs → IsWhole v s → IsKnown near' (xs ++ s))
    → IsOutline (vs ++ v ∷ []) m' k' near' ss'
outlined_more vs v m k m' k' near near' s ss ss' h whole count steps bears known = record {
  samples = h.samples ++ s;
  read = read_more _ _ _ _ _ _ _ _ _ _ _ h.read whole refl steps count bears;
  within = All-append (IsWithin 32) h.samples s h.within (whole_within v s whole);
  known = known h.samples s h.known whole;
}

-- records that bear no leap second, and have so many samples
pub outlined_on : (us vs : List View) (ss : List (ℕ × LeapStep)) → IsOutline us (samples_of us) 0 Unknown ss
    → AllByRecursion IsSound vs → steps_of vs ≡ 0
    → IsOutline (us ++ vs) (samples_of (us ++ vs)) 0 Unknown ss
outlined_on us [] ss h sound none = grind (arith, append-nil)
outlined_on us (v ∷ vs) ss h sound none =
    let here : step_count v ≡ 0 = omega (arith, none) in
    let m : ℕ = samples_of (us ++ v ∷ []) in
    let count : m ≡ samples_of us + count_of v = (let both = samples_append us (v ∷ []) in omega (arith, both)) in
    let bears : step_at m (step_in (leap_of v.bytes)) ≡ [] = no_step (step_in (leap_of v.bytes)) m here in
    let more = outlined_more us v (samples_of us) 0 m 0 Unknown Unknown sound.0.samples ss ss h sound.0.whole count
    (sym bears) (omega (arith, here)) (λ xs s known whole. tt) in
    rw (append_assoc us (v ∷ []) vs) at (outlined_on (us ++ v ∷ []) vs ss more sound.1 (omega (arith, none, here)))
