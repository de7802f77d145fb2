-- Records have one series at most, and leap seconds one first that a series can't have.
use Rattle.std.proofs.Common.{◌≡◌, ℕ, ℤ, ◌≤◌, List, [], ◌∷◌, ◌++◌, length, refl, sym, ◌∙◌, arith}
use Rattle.mseed_time.specs.declared.outcome.LeapStep.{LeapStep}
use Rattle.mseed_record.specs.View.{View}
use Rattle.mseed_steim.specs.Reading.{HasOneReading}
use Rattle.mseed_audit.specs.Series.{Trace, AreStepsFrom, IsBadStep, AreJoined, none, one, IsSeriesOf}
use Rattle.mseed_audit.proofs.OneVerdict.{same_rate}

pub joined_one : ((v : View) → HasOneReading v) → (vs : List View) (s t : List ℤ) → AreJoined vs s → AreJoined vs t
    → s ≡ t
joined_one single [] _ _ none none = refl
joined_one single (v ∷ vs) _ _ (one _ _ samples rest is later) (one _ _ others more are latter) =
    λ i. single v samples others is.0 are.0 i ++ joined_one single vs rest more later latter i

pub series_one : ((v : View) → HasOneReading v) → (s t : Trace) (vs : List View) → IsSeriesOf s vs → IsSeriesOf t vs
    → s ≡ t
series_one single s t vs h k =
    let parts : h.first ∷ h.rest ≡ k.first ∷ k.rest = sym h.parts ∙ k.parts in
    let first : h.first ≡ k.first = cc parts in
    let codes : s.codes ≡ t.codes = rw (h.codes, k.codes, first) refl in
    let start : s.start ≡ t.start = rw (h.start, k.start, first) refl in
    let rate : s.rate ≡ t.rate = same_rate s.rate t.rate (rw (h.factor, k.factor, first) refl)
    (rw (h.multiplier, k.multiplier, first) refl) in
    let samples : s.samples ≡ t.samples = joined_one single vs s.samples t.samples h.samples k.samples in
    let steps : s.steps ≡ t.steps = h.steps ∙ sym k.steps in
    λ i. record { codes = codes i; start = start i; rate = rate i; samples = samples i; steps = steps i }

-- the good ones before the first bad one are no fewer than any good ones
no_later : (place size : ℕ) (prefix back others rest : List (ℕ × LeapStep)) (bad other : ℕ × LeapStep)
    → prefix ++ bad ∷ back ≡ others ++ other ∷ rest
    → AreStepsFrom place size others → ¬ (AreStepsFrom place size (prefix ++ bad ∷ [])) → length others ≤ length prefix
no_later place size prefix back [] rest bad other e good not_good = omega arith
no_later place size [] back (t ∷ others) rest bad other e good not_good =
    let same : t ≡ bad = cc in absurd (not_good (rw (← same) (good.0, good.1, tt)))
no_later place size (s ∷ prefix) back (t ∷ others) rest bad other e good not_good =
    let same : t ≡ s = cc in
    let after : prefix ++ bad ∷ back ≡ others ++ other ∷ rest = cc in
    let moved = rw same at good in
    let fewer : length others ≤ length prefix =
    no_later s.0 size prefix back others rest bad other after moved.2 (λ all. not_good (moved.0, moved.1, all)) in
    omega (arith, fewer)

pub bad_one : (size : ℕ) (steps : List (ℕ × LeapStep)) (i j : ℕ) → IsBadStep size steps i → IsBadStep size steps j
    → i ≡ j
bad_one size steps i j h k =
    let low : length k.prefix ≤ length h.prefix =
    no_later 0 size h.prefix h.back k.prefix k.back h.bad k.bad (sym h.parts ∙ k.parts) k.good h.not_good in
    let high : length h.prefix ≤ length k.prefix =
    no_later 0 size k.prefix k.back h.prefix h.back k.bad h.bad (sym k.parts ∙ h.parts) h.good k.not_good in
    omega (arith, low, high, h.index_is, k.index_is)
