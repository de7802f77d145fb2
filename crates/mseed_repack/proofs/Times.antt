-- No sample of a stretch stands further than a quarter of its period from where its record has it.
use Rattle.std.proofs.Common.{◌≡◌, ℕ, ◌+◌, ◌*◌, ◌^◌, ◌≤◌, List, [], ◌∷◌, ◌++◌, ℤ, pos, ◌+ℤ◌, ◌-ℤ◌, unsigned_abs}
use Rattle.std.proofs.Common.{arith, Some, refl, ap, subst, ◌∙◌, append_assoc, append-nil}
use Rattle.std.proofs.lemmas.Int.{ints}
use Rattle.mseed_time.specs.Rate.{Ratio}
use Rattle.mseed_record.specs.View.{View, start_of}
use Rattle.mseed_audit.specs.Judging.{known_rate}
use Rattle.mseed_repack.specs.Stretches.{AllGoOn, AllStayNear, IsOnTime, IsStretch, added_by, drift_of}
use Rattle.mseed_repack.specs.Stretches.{instant_times, samples_of}
use Rattle.mseed_repack.proofs.Drifts.{times_sub}
use Rattle.mseed_repack.proofs.Joining.{IsPackability, going, stands_first, stands_next}

-- each record of a stretch is on time
pub stands_at : (rate : Ratio) (first : View) (rest before : List View) (b : View) (vs leading back : List View)
    (v : View) → known_rate first ≡ Some rate → first ∷ rest ≡ before ++ b ∷ []
    → IsPackability rate (start_of first) before b → AllGoOn (first ∷ rest) vs → b ∷ vs ≡ leading ++ v ∷ back
    → IsPackability rate (start_of first) (before ++ leading) v
stands_at rate first rest before b vs [] back v known e stands more at = grind (arith, append-nil)
stands_at rate first rest before b [] (w ∷ []) back v known e stands more at = cc
stands_at rate first rest before b [] (w ∷ (u ∷ us)) back v known e stands more at = cc
stands_at rate first rest before b (x ∷ vs) (w ∷ leading) back v known e stands more at =
    let here : b ≡ w = cc in
    let after : x ∷ vs ≡ leading ++ v ∷ back = cc in
    let next = going rate first rest x known more.0 in
    let later = stands_at rate first (rest ++ x ∷ []) (before ++ b ∷ []) x vs leading back v known
    (ap (λ (us : List View). us ++ x ∷ []) e) (stands_next rate next.0 first rest before b x e next.1) more.1 after in
    let all = append_assoc before (b ∷ []) leading ∙ ap (λ (u : View). before ++ u ∷ leading) here in
    subst (λ (us : List View). IsPackability rate (start_of first) us v) all later

-- what a sample's two instants differ by is what its record begins beside the clock
beside : (s t added : ℤ) (n m : ℕ) (rate : Ratio)
    → instant_times t m rate (pos 0) -ℤ instant_times s (n + m) rate added ≡ drift_of s n rate added t
beside s t added n m rate =
    let way = times_sub (t -ℤ s +ℤ added) t (s -ℤ added) rate.num (omega (arith, ints)) in
    omega (arith, ints, way, times_sub (s -ℤ added) s added rate.num refl)

near_by : (s t added : ℤ) (n m : ℕ) (rate : Ratio) → IsOnTime s n rate added t
    → 4 * unsigned_abs (instant_times t m rate (pos 0) -ℤ instant_times s (n + m) rate added) ≤ rate.den * 10 ^ 6
near_by s t added n m rate h = grind (arith, beside)

pub stay_near : (first : View) (rest : List View) (rate : Ratio) → IsStretch (first ∷ rest)
    → known_rate first ≡ Some rate → AllStayNear first rate (first ∷ rest)
stay_near first rest rate is known = λ before back v n at inside.
    near_by (start_of first) (start_of v) (added_by before) (samples_of before) n rate
    (stands_at rate first [] [] first rest before back v known refl (stands_first rate first known) is at).on_time
