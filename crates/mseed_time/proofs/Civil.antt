-- The calendar's date of a day is that of the definition.
use Rattle.std.proofs.Common.{◌≡◌, ℕ, zero, suc, ◌+◌, ◌-◌, ◌<◌, ◌≤◌, true, false, cond, leb, sym, subst, arith, ⊎_elim}
use Rattle.std.proofs.Common.{ℤ, pos, ◌+ℤ◌}
use Rattle.std.proofs.lemmas.Bool.{cases_lt, cases_order}
use Rattle.std.proofs.lemmas.Bool.Decides.{nat_tests}
use Rattle.jiff_core.specs.declared.civil.date.Date.{Date}
use Rattle.jiff_core.specs.Calendar.{days_of_months, day_count, day_of_year, days_in_month}
use Rattle.jiff_core.specs.Date.{epoch_day}
use Rattle.jiff_core.proofs.CalendarLemmas.{days_from_civil-day_count, day_count-year_is, day_count-next_year}
use Rattle.jiff_core.proofs.CalendarLemmas.{days_of_months_table, days_of_months_mono, days_of_months_more}
use Rattle.jiff_core.proofs.CalendarLemmas.{day_count-day_of_year}
use Rattle.jiff_core.proofs.DateLemmas.{civil}
use Rattle.jiff_core.proofs.SignedLemmas.{signed_arith}
use Rattle.mseed_time.specs.Btime.{day_of}
use Rattle.mseed_time.specs.Calendar.{begun, year_start, year_of, place_in_year, month_start, months_over, day_of_month}
use Rattle.mseed_time.proofs.Days.{days_from_civil-first}

-- starts that don't fall, up to n
abbrev pub Rises : (ℕ → ℕ) → ℕ → Type 0
Rises start n = (i j : ℕ) → i ≤ j → j ≤ n → start i ≤ start j

-- the last of the spans 0 to n that have begun at a place
pub record IsLast (start : ℕ → ℕ) (n place k : ℕ) : Type 0 where
  pub within : k ≤ n
  pub begins : start k ≤ place
  pub next : k < n → place < start (suc k)

begun_step : (start : ℕ → ℕ) (n place k : ℕ) → Rises start (suc n) → IsLast start n place k
    → IsLast start (suc n) place (k + cond (leb (start (suc n)) place) 1 0)
begun_step start n place k rises h = ⊎_elim
    (λ lt. let no : leb (start (suc n)) place ≡ false = grind (arith, nat_tests, lt) in
    let same : k + 0 ≡ k = omega arith in
    let next : k < suc n → place < start (suc k) =
    λ m. ⊎_elim (λ l. h.next l) (λ g. let e : k ≡ n = omega (arith, h.within) in rw e lt) (cases_lt k n) in
    rw (no, same) (record { within = omega (arith, h.within); begins = h.begins; next = next }))
    (λ le. let yes : leb (start (suc n)) place ≡ true = grind (arith, nat_tests, le) in
    let all : k + 1 ≡ suc n =
    ⊎_elim (λ l. absurd (omega (arith, h.next l, rises (suc k) (suc n) (omega arith) (omega arith))))
    (λ g. omega (arith, h.within)) (cases_lt k n) in
    let past : suc n < suc n → place < start (suc (suc n)) = λ l. absurd (omega arith) in
    rw (yes, all) (record { within = omega arith; begins = le; next = past }))
    (cases_lt place (start (suc n)))

pub begun_is : (start : ℕ → ℕ) (n place : ℕ) → Rises start n → start 0 ≤ place
    → IsLast start n place (begun start n place)
unfolding begun
begun_is start zero place rises first =
    let past : zero < zero → place < start (suc zero) = λ l. absurd (omega arith) in
    record { within = omega arith; begins = first; next = past }
begun_is start (suc n) place rises first =
    begun_step start n place (begun start n place) rises
    (begun_is start n place (λ i j h k. rises i j h (omega arith)) first)

-- there is one such span
pub last_one : (start : ℕ → ℕ) (n place j k : ℕ) → Rises start n → IsLast start n place j
    → IsLast start n place k → j ≡ k
last_one start n place j k rises a b = ⊎_elim (λ e. e)
    (λ o. absurd (⊎_elim
    (λ l. omega (arith, a.next (omega (arith, l, b.within)), rises (suc j) k l b.within, b.begins))
    (λ l. omega (arith, b.next (omega (arith, l, a.within)), rises (suc k) j l a.within, a.begins)) o))
    (cases_order j k)

pub year_start-day_of : (y : ℕ) → 1800 ≤ y → day_of y 1 +ℤ pos 62_091 ≡ pos (year_start y)
year_start-day_of y low = omega (arith, signed_arith)

pub years_rise : Rises (λ n. year_start (1800 + n)) 399
years_rise i j h k = omega arith

-- the calendar counts its days from the year -10000
day_count-year_start : (y : ℕ) → 1800 ≤ y → day_count (pos y) 1 1 ≡ year_start y + 4_309_862
day_count-year_start y low =
    let first = days_from_civil-first y (omega arith) in
    let counted = rw first at (days_from_civil-day_count (pos y) 1 1) in
    omega (arith, signed_arith, counted, year_start-day_of y low)

-- the date that a day number of the calendar names
pub record IsDateOf (day : ℕ) (d : Date) : Type 0 where
  pub year : d.year ≡ pos (year_of day)
  pub month : d.month ≡ months_over day + 1
  pub day_of_month : d.day ≡ day_of_month day

-- no more of them have begun than there are
pub begun_most : (start : ℕ → ℕ) (n place : ℕ) → begun start n place ≤ n
unfolding begun
begun_most start zero place = omega arith
begun_most start (suc n) place =
    let before = begun_most start n place in
    grind (arith, nat_tests, before)

year_is : (d : Date) (day : ℕ) → day < 146_097 → day_count d.year d.month d.day ≡ day + 4_309_862
    → d.year ≡ pos (year_of day)
year_is d day high counted =
    let last = begun_is (λ n. year_start (1800 + n)) 399 day years_rise (omega arith) in
    let k = begun (λ n. year_start (1800 + n)) 399 day in
    let next : day < year_start (1800 + suc k) =
    ⊎_elim (λ l. last.next l) (λ g. let e : k ≡ 399 = omega (arith, last.within) in rw e (omega arith))
    (cases_lt k 399) in
    let here = day_count-year_start (1800 + k) (omega arith) in
    let there = day_count-year_start (1800 + suc k) (omega arith) in
    let year = day_count-next_year (pos (1800 + k)) (pos (1800 + suc k)) (omega (arith, signed_arith))
    (omega (arith, signed_arith)) in
    day_count-year_is (pos (1800 + k)) d.year d.month d.day (omega (arith, signed_arith, last.within)) (civil d)
    (omega (arith, counted, here, last.begins)) (omega (arith, counted, here, there, year, next))

-- the start of a month is the calendar's
pub month_start-days_of_months : (y n : ℕ) → n < 12 → month_start y n ≡ days_of_months (pos y) n
month_start-days_of_months y n h = sym (days_of_months_table (pos y) n h)

pub months_rise : (y : ℕ) → Rises (month_start y) 11
months_rise y i j h k =
    omega (
      arith,
      month_start-days_of_months y i (omega arith),
      month_start-days_of_months y j (omega arith),
      days_of_months_mono (pos y) i j h,
    )

pub month_is : (y m place day : ℕ) → 1 ≤ m → m ≤ 12 → 1 ≤ day → day ≤ days_in_month (pos y) m
    → place + 1 ≡ days_of_months (pos y) (m - 1) + day → (m ≡ begun (month_start y) 11 place + 1)
    × (day ≡ place - month_start y (begun (month_start y) 11 place) + 1)
month_is y m place day low high first last e =
    let start = month_start-days_of_months y (m - 1) (omega arith) in
    let next : m - 1 < 11 → place < month_start y (suc (m - 1)) = λ l.
    let back : suc (m - 1) ≡ m = omega arith in
    rw back (omega (arith, e, last, days_of_months_more (pos y) m low, month_start-days_of_months y m (omega arith))) in
    let here : IsLast (month_start y) 11 place (m - 1) =
    record { within = omega arith; begins = omega (arith, start, e); next = next } in
    let same = last_one (month_start y) 11 place (m - 1) (begun (month_start y) 11 place) (months_rise y) here
    (begun_is (month_start y) 11 place (months_rise y) (omega arith)) in
    (omega (arith, same), rw (← same) (omega (arith, start, e)))

pub date_is : (d : Date) (day : ℕ) → day < 146_097 → epoch_day d +ℤ pos 4_371_587 ≡ pos (day + 4_309_496)
    → IsDateOf day d
date_is d day high e =
    let counted : day_count d.year d.month d.day ≡ day + 4_309_862 =
    omega (arith, signed_arith, e, days_from_civil-day_count d.year d.month d.day) in
    let year = year_is d day high counted in
    let first = day_count-year_start (year_of day) (omega arith) in
    let place : day_count d.year d.month d.day + 1 ≡ day_count (pos (year_of day)) 1 1 + day_of_year
    (pos (year_of day)) d.month d.day =
    subst (λ (y : ℤ). day_count d.year d.month d.day + 1 ≡ day_count y 1 1 + day_of_year y d.month d.day) year
    (day_count-day_of_year d.year d.month d.day (civil d).2.0) in
    let last : d.day ≤ days_in_month (pos (year_of day)) d.month =
    subst (λ (y : ℤ). d.day ≤ days_in_month y d.month) year (civil d).2.1 in
    let months = month_is (year_of day) d.month (place_in_year day) d.day (civil d).1.0 (civil d).1.1 (civil d).2.0
    last (omega (arith, counted, first, place)) in
    record { year = year; month = months.0; day_of_month = months.1 }
