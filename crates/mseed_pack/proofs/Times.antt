-- The instants of a span rise.
use Rattle.std.proofs.Common.{◌-◌, ◌⊎◌}
use Rattle.std.proofs.Common.{◌≡◌, ℕ, zero, suc, ◌+◌, ◌*◌, ◌/◌, ◌^◌, ◌<◌, ◌≤◌, inl, inr, List, subst, arith, ℤ}
use Rattle.std.proofs.Common.{pos, ◌+ℤ◌, ◌-ℤ◌, ◌≤ℤ◌, ◌<ℤ◌, nat_abs}
use Rattle.std.proofs.lemmas.Bool.{cases_lt}
use Rattle.std.proofs.lemmas.Int.{by_lt_z, ints}
use Rattle.std.proofs.lemmas.Nat.{le-div}
use Rattle.std.proofs.Math.Nat.{add-mul-div_right, div-le_self, div-mul-le_self, mul-le-mul_left}
use Rattle.mseed_time.specs.Btime.{IsInstant}
use Rattle.mseed_time.specs.Naming.{IsOutside, year_begins}
use Rattle.mseed_time.specs.Rate.{IsRatio, Ratio}
use Rattle.mseed_audit.specs.Series.{AreSteps}
use Rattle.mseed_time.specs.declared.outcome.LeapStep.{LeapStep}
use Rattle.mseed_pack.specs.declared.span.Span.{Span}
use Rattle.mseed_pack.specs.Clock.{added_before, periods, reading_at}
use Rattle.mseed_pack.specs.Fitting.{IsFirstOutside}
use Rattle.mseed_pack.specs.private.Heads.{IsSpanOutside}
use Rattle.mseed_pack.specs.private.Spans.{IsSpan}
use Rattle.mseed_pack.proofs.Leaps.{before}
use Rattle.mseed_pack.proofs.Steps.{added_at, added_near}

div_rise : (a b k : ℕ) → a ≤ b → a / k ≤ b / k
div_rise a b zero h = omega (arith, h)
div_rise a b (suc k) h = le-div (a / suc k) b (suc k) (omega arith) (omega (arith, div-mul-le_self a (suc k), h))

pub periods_rise : (rate : Ratio) (i j : ℕ) → i ≤ j → periods rate i ≤ periods rate j
periods_rise rate i j h =
    let more : rate.den * i ≤ rate.den * j = mul-le-mul_left rate.den h in
    div_rise (i * rate.den * 10 ^ 6) (j * rate.den * 10 ^ 6) rate.num (omega (arith, more))

-- the first sample is at the start
pub reading_first : (start : ℤ) (rate : Ratio) (steps : List (ℕ × LeapStep)) (size : ℕ) → AreSteps size steps
    → reading_at start rate steps 0 ≡ start
reading_first start rate steps size are =
    omega (arith, ints, (before 0 size steps 0 (omega arith) are).added, div-le_self (0 * rate.den * 10 ^ 6) rate.num)

-- between two samples of a span whose instants can be written each one's can be
pub between_timed : (start : ℤ) (rate : Ratio) (added : ℤ) (first last i : ℕ) → first ≤ i → i ≤ last
    → ¬ (IsOutside (start +ℤ pos (periods rate first) -ℤ added))
    → ¬ (IsOutside (start +ℤ pos (periods rate last) -ℤ added))
    → ¬ (IsOutside (start +ℤ pos (periods rate i) -ℤ added))
between_timed start rate added first last i low high in_first in_last out = elim out [
  | inl early ↦ in_first (inl (omega (arith, ints, early, periods_rise rate first i low)))
  | inr late ↦ in_last (inr (omega (arith, ints, late, periods_rise rate i last high)))
]

module _ (start : ℤ) (rate : Ratio) {steps : List (ℕ × LeapStep)} {size : ℕ} {span : Span} where
  -- the instant of a sample of a span
  pub reading_in : (i : ℕ) → IsSpan steps size span → span.begin ≤ i → i < span.end
      → start +ℤ pos (periods rate i) -ℤ span.added ≡ reading_at start rate steps i
  reading_in i h low high = rw (added_at h i low high)

  -- each sample's can be written before a place in a span, where each before the span can be
  pub timed_on : IsSpan steps size span → span.begin < size
      → ¬ (IsOutside (start +ℤ pos (periods rate span.begin) -ℤ span.added))
      → ¬ (IsOutside (start +ℤ pos (periods rate (span.end - 1)) -ℤ span.added))
      → ((i : ℕ) → i < span.begin → ¬ (IsOutside (reading_at start rate steps i))) → (n : ℕ) → n ≤ span.end
      → (i : ℕ) → i < n → ¬ (IsOutside (reading_at start rate steps i))
  timed_on h some first last before n end i less = elim (cases_lt i span.begin) [
    | inl below ↦ before i below
    | inr low ↦ rw (reading_in i h low (omega arith)) at
        (between_timed start rate span.added span.begin (span.end - 1) i low (omega arith) first last)
  ]

pub span_out : {start : ℤ} {rate : Ratio} {steps : List (ℕ × LeapStep)} {size : ℕ} {span : Span}
    → IsSpan steps size span → span.begin < size
    → ((i : ℕ) → i < span.begin → ¬ (IsOutside (reading_at start rate steps i)))
    → IsOutside (start +ℤ pos (periods rate span.begin) -ℤ span.added)
    ⊎ IsOutside (start +ℤ pos (periods rate (span.end - 1)) -ℤ span.added)
    → IsSpanOutside start rate steps size span
span_out h more before ends =
    record { standing = h; some = h.some more; within = h.most; before = before; ends = ends }

-- the first sample whose instant can't be written lies in the first span in which there is one
pub first_of_span : {start : ℤ} {rate : Ratio} {steps : List (ℕ × LeapStep)} {size : ℕ} {span : Span} (i : ℕ)
    → IsSpanOutside start rate steps size span → span.begin ≤ i → i < span.end
    → IsOutside (start +ℤ pos (periods rate i) -ℤ span.added)
    → ((k : ℕ) → span.begin ≤ k → k < i → ¬ (IsOutside (start +ℤ pos (periods rate k) -ℤ span.added)))
    → IsFirstOutside (λ (k : ℕ). reading_at start rate steps k) size i
first_of_span {start} {rate} {steps} {size} {span} i h low high out before = record {
  inside = omega (arith, h.within);
  outside = rw (reading_in start rate i h.standing low high) at out;
  before = λ k less. elim (cases_lt k span.begin) [
    | inl below ↦ h.before k below
    | inr more ↦ rw (reading_in start rate k h.standing more (omega arith)) at (before k more less)
  ];
}

-- from an instant that can be written on, with a period and a leap second at most, no instant is far from it
near_instant : (start a b : ℤ) (p q d : ℕ) → p ≤ q → q ≤ p + d → d ≤ 2 ^ 30 * 10 ^ 6 → nat_abs (b -ℤ a) ≤ 10 ^ 6
    → ¬ (IsOutside (start +ℤ pos p -ℤ a)) → IsInstant (start +ℤ pos q -ℤ b)
near_instant start a b p q d rise most period step not =
    let t : ℤ = start +ℤ pos p -ℤ a in
    let low : year_begins 1900 ≤ℤ (t +ℤ pos 50) = by_lt_z (t +ℤ pos 50) (year_begins 1900)
    (λ early. absurd (not (inl early))) (λ from. from) in
    let high : (t +ℤ pos 50) <ℤ year_begins 2101 = by_lt_z (t +ℤ pos 50) (year_begins 2101)
    (λ before. before) (λ late. absurd (not (inr late))) in
    (omega (arith, ints, low, rise, step), omega (arith, ints, high, most, period, step))

periods_next : (rate : Ratio) (i : ℕ) → 0 < rate.num → periods rate (i + 1) ≤ periods rate i + rate.den * 10 ^ 6
periods_next rate i some =
    let d : ℕ = rate.den * 10 ^ 6 in
    let times : d * 1 ≤ d * rate.num = mul-le-mul_left d some in
    rw (add-mul-div_right (i * rate.den * 10 ^ 6) d some) at
    (div_rise ((i + 1) * rate.den * 10 ^ 6) (i * rate.den * 10 ^ 6 + d * rate.num) rate.num (omega (arith, times)))

-- the first instant of a series that can't be written lies in the years 1800 to 2199
pub first_is_instant : (start : ℤ) (rate : Ratio) (steps : List (ℕ × LeapStep)) (size i : ℕ) → IsInstant start
    → IsRatio rate → AreSteps size steps → IsFirstOutside (λ (k : ℕ). reading_at start rate steps k) size i
    → IsInstant (reading_at start rate steps i)
first_is_instant start rate steps size zero known ratio are h = rw (reading_first start rate steps size are) known
first_is_instant start rate steps size (suc i) known ratio are h =
    subst (λ (n : ℕ). IsInstant (reading_at start rate steps n)) {x = i + 1} {y = suc i} (omega arith)
    (near_instant start (added_before steps i) (added_before steps (i + 1)) (periods rate i) (periods rate (i + 1))
    (rate.den * 10 ^ 6) (periods_rise rate i (i + 1) (omega arith)) (periods_next rate i ratio.num_counts)
    (omega (arith, ratio.den_bound)) (added_near steps size i are (omega (arith, h.inside))) (h.before i (omega arith)))
