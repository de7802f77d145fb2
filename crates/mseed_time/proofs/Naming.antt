-- No two pairs spell one instant.
use Rattle.std.proofs.Common.{◌≡◌, ℕ, suc, ◌+◌, ◌-◌, ◌*◌, ◌<◌, ◌≤◌, zero, ap, ◌∙◌, le_trans, arith, ℤ, pos, ◌+ℤ◌}
use Rattle.std.proofs.Common.{false, ⊎_elim}
use Rattle.std.proofs.Math.IntN.{+ℤ_idr}
use Rattle.std.proofs.lemmas.Bool.{cases_order}
use Rattle.std.proofs.lemmas.Bool.Decides.{nat_tests}
use Rattle.jiff_core.proofs.SignedLemmas.{signed_arith}
use Rattle.mseed_time.specs.Btime.{Parts, IsTime, instant_of, leap_days, days_in_year, microsecond_of}
use Rattle.mseed_time.specs.Naming.{HasNoName, IsOutside, Names}
use Rattle.mseed_time.proofs.Days.{microsecond_of-counted}

-- the days of the years before one, from the year 1 on
abbrev pub days_before : ℕ → ℕ
days_before year = 365 * year + leap_days year

pub days_before-next : (y : ℕ) → 1 ≤ y → days_before (suc y) ≡ days_before y + days_in_year y
days_before-next y low = grind (arith, nat_tests)

days_before-rises : (y k : ℕ) → 1 ≤ y → days_before y ≤ days_before (k + y)
days_before-rises y zero low = omega arith
days_before-rises y (suc k) low =
    let rest = days_before-rises y k low in
    let next : days_before (k + y) ≤ days_before (suc (k + y)) =
    rw (days_before-next (k + y) (omega arith)) (omega arith) in
    let same : suc k + y ≡ suc (k + y) = omega arith in
    rw same (le_trans rest next)

-- a year begins after the days of an earlier one
days_before-later : (y z : ℕ) → 1 ≤ y → y < z → days_before y + days_in_year y ≤ days_before z
days_before-later y z low h =
    let same : z - suc y + suc y ≡ z = omega arith in
    let rises = rw same at (days_before-rises (suc y) (z - suc y) (omega arith)) in
    rw (← days_before-next y low) rises

-- a day of a year is no day of another
same_day : (y d z e : ℕ) → 1 ≤ y → 1 ≤ z → 1 ≤ d → d ≤ days_in_year y → 1 ≤ e → e ≤ days_in_year z
    → days_before y + d ≡ days_before z + e → (y ≡ z) × (d ≡ e)
same_day y d z e y_low z_low d_low d_high e_low e_high same =
    let years : y ≡ z = ⊎_elim (λ h. h)
    (λ o. absurd (⊎_elim
    (λ l. omega (arith, same, days_before-later y z y_low l))
    (λ l. omega (arith, same, days_before-later z y z_low l)) o))
    (cases_order y z) in
    (years, omega (arith, same, ap days_before years))

-- the ten-thousandths of a second from 1900, by the day, the hour and so on
abbrev ticks_of : ℕ → Parts → ℕ
ticks_of days t = (((days * 24 + t.hour) * 60 + t.minute) * 60 + t.second) * 10_000 + t.fraction

-- the days from 1900 to a time
days_of : Parts → ℕ
days_of t = days_before t.year + t.day - 693_961

counted : (t : Parts) → IsTime t → microsecond_of t +ℤ pos 2_208_988_800_000_000 ≡ pos (100 * ticks_of (days_of t) t)
unfolding days_of
counted t h = microsecond_of-counted t (days_of t) (omega (arith, signed_arith)) ∙ ap pos (omega arith)

-- two pairs that spell one instant have the same microseconds, and the same ten-thousandths
same_ticks : (instant u v : ℤ) (t s : Parts) → Names instant t u → Names instant s v
    → (u ≡ v) × (ticks_of (days_of t) t ≡ ticks_of (days_of s) s)
same_ticks instant u v t s a b =
    let first = counted t a.valid in
    let second = counted s b.valid in (
      omega (arith, signed_arith, a.value, b.value, first, second),
      omega (arith, signed_arith, a.value, b.value, first, second),
    )

-- the digits of the ten-thousandths
same_clock : (c d : ℕ) (t s : Parts) → IsTime t → t.second ≤ 59 → IsTime s → s.second ≤ 59
    → ticks_of c t ≡ ticks_of d s → (t.fraction ≡ s.fraction) × (t.second ≡ s.second) × (t.minute ≡ s.minute)
    × (t.hour ≡ s.hour) × (c ≡ d)
same_clock c d t s a t59 b s59 e =
    let fraction : t.fraction ≡ s.fraction = omega arith in
    let second : t.second ≡ s.second = omega arith in
    let minute : t.minute ≡ s.minute = omega arith in
    let hour : t.hour ≡ s.hour = omega arith in
    (fraction, second, minute, hour, omega arith)

same_parts : (t s : Parts) → IsTime t → t.second ≤ 59 → IsTime s → s.second ≤ 59
    → ticks_of (days_of t) t ≡ ticks_of (days_of s) s → t ≡ s
unfolding days_of
same_parts t s a t59 b s59 e =
    let clock = same_clock (days_of t) (days_of s) t s a t59 b s59 e in
    let day = same_day t.year t.day s.year s.day (omega arith) (omega arith) a.2 a.3 b.2 b.3 (omega arith) in
    λ i. record {
      year = day.0 i;
      day = day.1 i;
      hour = clock.3 i;
      minute = clock.2 i;
      second = clock.1 i;
      fraction = clock.0 i;
    }

pub name_unique : (instant u v : ℤ) (t s : Parts) → Names instant t u → Names instant s v → (t ≡ s) × (u ≡ v)
name_unique instant u v t s a b =
    let same = same_ticks instant u v t s a b in
    (same_parts t s a.valid a.second b.valid b.second same.1, same.0)

pub named_value : (instant u : ℤ) (t : Parts) → Names instant t u → instant_of t (pos 0) false u ≡ instant
named_value instant u t h = ap (λ (n : ℤ). n +ℤ u) (+ℤ_idr (microsecond_of t)) ∙ h.value

few_days : (t : Parts) → IsTime t → days_of t ≤ 73_413
unfolding days_of
few_days t h = omega (arith, days_before-later t.year 2101 (omega arith) (omega arith))

-- an instant outside the years 1900 to 2100 has no name
pub outside_unnamed : (instant : ℤ) → IsOutside instant → HasNoName instant
outside_unnamed instant outside t u a =
    let ticks = counted t a.valid in
    ⊎_elim
    (λ before. omega (arith, signed_arith, a.value, a.low, ticks, before))
    (λ after. omega (arith, signed_arith, a.value, a.high, a.second, ticks, after, few_days t a.valid))
    outside
