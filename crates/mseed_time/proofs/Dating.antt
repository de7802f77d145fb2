-- The day of the year of a month's day is the one that the text of a date has so.
use Rattle.std.proofs.Common.{◌≡◌, ℕ, suc, ◌+◌, ◌-◌, ◌<◌, ◌≤◌, true, false, cond, ◌&&◌, Bool, eqb, sym, ap, subst}
use Rattle.std.proofs.Common.{◌∙◌}
use Rattle.std.proofs.Common.{ℤ, arith, ⊎_elim, Some, None, pos, refl, ◌*◌, ◌+ℤ◌}
use Rattle.std.proofs.lemmas.Bool.{cases_lt, and_parts}
use Rattle.std.proofs.lemmas.Bool.Decides.{nat_tests}
use Rattle.jiff_core.specs.Calendar as jiff
use Rattle.jiff_core.specs.Calendar.{days_of_months}
use Rattle.jiff_core.proofs.CalendarLemmas.{days_of_months_all, days_of_months_more}
use Rattle.jiff_core.proofs.SignedLemmas.{signed_arith}
use Rattle.mseed_time.specs.Btime.{Parts, day_of, days_in_year, is_within, microsecond_of}
use Rattle.mseed_time.specs.Calendar.{IsDatedSo, begun, day_in_year, days_in_month, month_start}
use Rattle.mseed_time.specs.Calendar.{place_in_year, year_of, year_start}
use Rattle.mseed_time.proofs.Civil.{IsLast, begun_is, last_one, month_is, month_start-days_of_months, months_rise}
use Rattle.mseed_time.proofs.Civil.{year_start-day_of, years_rise}
use Rattle.mseed_time.proofs.Naming.{days_before-next}

-- ---- years
year_next : (y : ℕ) → 1800 ≤ y → year_start (suc y) ≡ year_start y + days_in_year y
year_next y low = omega (arith, days_before-next y (omega arith))

-- the year has begun last where the day is within it
year_at : (k place : ℕ) → k ≤ 399 → place < days_in_year (1800 + k)
    → IsLast (λ n. year_start (1800 + n)) 399 (year_start (1800 + k) + place) k
year_at k place few within =
    let same : 1800 + suc k ≡ suc (1800 + k) = omega arith in
    let next : k < 399 → year_start (1800 + k) + place < year_start (1800 + suc k) = λ _.
    rw (same, year_next (1800 + k) (omega arith)) (omega (arith, within)) in
    record { within = few; begins = omega arith; next = next }

pub year_of-place : (k place : ℕ) → k ≤ 399 → place < days_in_year (1800 + k)
    → year_of (year_start (1800 + k) + place) ≡ 1800 + k
year_of-place k place few within =
    let day : ℕ = year_start (1800 + k) + place in
    ap (λ (n : ℕ). 1800 + n) (last_one (λ n. year_start (1800 + n)) 399 day
    (begun (λ n. year_start (1800 + n)) 399 day) k years_rise
    (begun_is (λ n. year_start (1800 + n)) 399 day years_rise (omega arith)) (year_at k place few within))

-- ---- months
-- a month ends where the next one begins, and the last one with the year
month_to_next : (y k : ℕ) → k < 11 → days_in_month y (suc k) ≡ month_start y (suc k) - month_start y k
month_to_next y k h =
    let no : eqb (suc k) 12 ≡ false = grind (arith, nat_tests, h) in
    let back : suc k - 1 ≡ k = omega arith in
    ap (λ (b : Bool). cond b (days_in_year y) (month_start y (suc k)) - month_start y (suc k - 1)) no
    ∙ ap (λ (j : ℕ). month_start y (suc k) - month_start y j) back

pub days_in_month-jiff : (y m : ℕ) → 1 ≤ m → m ≤ 12 → days_in_month y m ≡ jiff.days_in_month (pos y) m
days_in_month-jiff y m low high =
    let more = days_of_months_more (pos y) m low in
    let start = month_start-days_of_months y (m - 1) (omega arith) in
    ⊎_elim
    (λ l. let same : suc (m - 1) ≡ m = omega arith in
    let to_next = rw same at (month_to_next y (m - 1) (omega arith)) in
    omega (arith, to_next, more, start, month_start-days_of_months y m l))
    (λ g. let last : m ≡ 12 = omega arith in
    let all : days_of_months (pos y) m ≡ days_in_year y =
    ap (λ (j : ℕ). days_of_months (pos y) j) last ∙ days_of_months_all (pos y) in
    let is : days_in_month y m ≡ days_in_year y - month_start y (m - 1) =
    ap (λ (b : Bool). cond b (days_in_year y) (month_start y m) - month_start y (m - 1))
    (let yes : eqb m 12 ≡ true = grind (arith, nat_tests, last) in yes) in
    omega (arith, is, all, more, start))
    (cases_lt m 12)

-- ---- the day of the year
pub within_yes : (low high n : ℕ) → low ≤ n → n ≤ high → is_within low high n ≡ true
within_yes low high n h l = grind (arith, nat_tests)

pub within_is : (low high n : ℕ) → is_within low high n ≡ true → (low ≤ n) × (n ≤ high)
within_is low high n h = (grind (arith, nat_tests), grind (arith, nat_tests))

pub day_in_year-yes : (y m d : ℕ) → 1 ≤ m → m ≤ 12 → 1 ≤ d → d ≤ days_in_month y m
    → day_in_year y m d ≡ Some (month_start y (m - 1) + d)
day_in_year-yes y m d low high first last =
    ap (λ (b : Bool). cond (b && is_within 1 (days_in_month y m) d) (Some (month_start y (m - 1) + d)) None)
    (within_yes 1 12 m low high)
    ∙ ap (λ (b : Bool). cond b (Some (month_start y (m - 1) + d)) None)
    (within_yes 1 (days_in_month y m) d first last)

-- what a date that there is says
pub record IsDay (y m d n : ℕ) : Type 0 where
  pub low : 1 ≤ m
  pub high : m ≤ 12
  pub first : 1 ≤ d
  pub last : d ≤ days_in_month y m
  pub is : month_start y (m - 1) + d ≡ n

pub some_by : (b : Bool) (n k : ℕ) → cond b (Some n) None ≡ Some k → (b ≡ true) × (n ≡ k)
some_by true n k e = (refl, cc)
some_by false n k e = absurd (let f : None ≡ Some k = e in cc f)

pub day_in_year-is : (y m d n : ℕ) → day_in_year y m d ≡ Some n → IsDay y m d n
day_in_year-is y m d n e =
    let both = some_by (is_within 1 12 m && is_within 1 (days_in_month y m) d) (month_start y (m - 1) + d) n e in
    let tests = and_parts (is_within 1 12 m) (is_within 1 (days_in_month y m) d) both.0 in
    let month = within_is 1 12 m tests.0 in
    let day = within_is 1 (days_in_month y m) d tests.1 in
    record { low = month.0; high = month.1; first = day.0; last = day.1; is = both.1 }

-- the months of the year end with it
pub day_within : (y m d n : ℕ) → IsDay y m d n → n ≤ days_in_year y
day_within y m d n h =
    ⊎_elim
    (λ l. omega (
      arith,
      h.is,
      h.last,
      days_in_month-jiff y m h.low h.high,
      days_of_months_more (pos y) m h.low,
      month_start-days_of_months y (m - 1) (omega (arith, h.high)),
      month_start-days_of_months y m l,
      months_rise y m 11 (omega arith) (omega arith),
      month_end y,
    ))
    (λ g. let last : m ≡ 12 = omega (arith, h.high) in
    let all : days_of_months (pos y) m ≡ days_in_year y =
    ap (λ (j : ℕ). days_of_months (pos y) j) last ∙ days_of_months_all (pos y) in
    omega (
      arith,
      h.is,
      h.last,
      days_in_month-jiff y m h.low h.high,
      days_of_months_more (pos y) m h.low,
      month_start-days_of_months y (m - 1) (omega (arith, h.high)),
      all,
    ))
    (cases_lt m 12)
  where
    month_end : (y : ℕ) → month_start y 11 ≤ days_in_year y
    month_end y = omega (
      arith,
      days_of_months_all (pos y),
      days_of_months_more (pos y) 12 (omega arith),
      month_start-days_of_months y 11 (omega arith),
    )

-- the text of that day has this month and day
dated_by : (y m d n : ℕ) → IsDay y m d n → 1800 ≤ y → y ≤ 2199 → IsDatedSo y m d n
dated_by y m d n h low high =
    let k : ℕ = y - 1800 in
    let there : 1800 + k ≡ y = omega arith in
    let whole = day_within y m d n h in
    let place : year_start y + n - 1 ≡ year_start y + (n - 1) = omega (arith, h.is, h.first) in
    let first : 1 ≤ n = omega (arith, h.is, h.first) in
    let at : year_of (year_start y + (n - 1)) ≡ y =
    rw there at (year_of-place k (n - 1) (omega arith) (rw there (omega (arith, whole, first)))) in
    let year : year_of (year_start y + n - 1) ≡ y = ap (λ (x : ℕ). year_of x) place ∙ at in
    let in_year : year_start y + n - 1 - year_start y ≡ n - 1 = omega (arith, first) in
    let months = month_is y m (n - 1) d h.low h.high h.first
    (omega (arith, h.last, days_in_month-jiff y m h.low h.high))
    (omega (arith, h.is, h.first, month_start-days_of_months y (m - 1) (omega (arith, h.high)))) in
    let month : begun (month_start y) 11 (n - 1) + 1 ≡ m = sym months.0 in
    let day : n - 1 - month_start y (begun (month_start y) 11 (n - 1)) + 1 ≡ d = sym months.1 in
    record {
      first = first;
      last = whole;
      year_is = year;
      month_is = subst (λ (x : ℕ). begun (month_start x) 11 (year_start y + n - 1 - year_start x) + 1 ≡ m)
          (sym year) (ap (λ (x : ℕ). begun (month_start y) 11 x + 1) in_year ∙ month);
      day_is = subst (λ (x : ℕ). year_start y + n - 1 - year_start x
          - month_start x (begun (month_start x) 11 (year_start y + n - 1 - year_start x)) + 1 ≡ d)
          (sym year) (ap (λ (x : ℕ). x - month_start y (begun (month_start y) 11 x) + 1) in_year ∙ day);
    }

-- a place in a year is a day of the month that has begun last
pub day_at : (y place : ℕ) → place < days_in_year y
    → day_in_year y (begun (month_start y) 11 place + 1)
    (place - month_start y (begun (month_start y) 11 place) + 1) ≡ Some (place + 1)
day_at y place within =
    let k : ℕ = begun (month_start y) 11 place in
    let last = begun_is (month_start y) 11 place (months_rise y) (omega arith) in
    let next : suc k ≡ k + 1 = omega arith in
    let back : k + 1 - 1 ≡ k = omega arith in
    let long : place - month_start y k + 1 ≤ days_in_month y (k + 1) =
    ⊎_elim
    (λ l. rw (← next, month_to_next y k l) (omega (arith, last.begins, last.next l)))
    (λ g. let e : k ≡ 11 = omega (arith, last.within) in
    let is : days_in_month y (k + 1) ≡ days_in_year y - month_start y k =
    ap (λ (b : Bool). cond b (days_in_year y) (month_start y (k + 1)) - month_start y (k + 1 - 1))
    (let yes : eqb (k + 1) 12 ≡ true = grind (arith, nat_tests, e) in yes)
    ∙ ap (λ (j : ℕ). days_in_year y - month_start y j) back in
    omega (arith, is, last.begins, within))
    (cases_lt k 11) in
    day_in_year-yes y (k + 1) (place - month_start y k + 1) (omega arith) (omega (
      arith,
      last.within,
    )) (omega arith) long
    ∙ ap (λ (j : ℕ). Some (month_start y j + (place - month_start y k + 1))) back
    ∙ ap (λ (j : ℕ). Some j) (omega (arith, last.begins))

dated_back : (y m d n : ℕ) → IsDatedSo y m d n → day_in_year y m d ≡ Some n
dated_back y m d n h =
    let in_year : year_start y + n - 1 - year_start y ≡ n - 1 = omega (arith, h.first) in
    let more : n - 1 + 1 ≡ n = omega (arith, h.first) in
    let month : begun (month_start y) 11 (n - 1) + 1 ≡ m =
    ap (λ (x : ℕ). begun (month_start y) 11 x + 1) (sym in_year)
    ∙ subst (λ (x : ℕ). begun (month_start x) 11
    (year_start y + n - 1 - year_start x) + 1 ≡ m) h.year_is h.month_is in
    let day : n - 1 - month_start y (begun (month_start y) 11 (n - 1)) + 1 ≡ d =
    ap (λ (x : ℕ). x - month_start y (begun (month_start y) 11 x) + 1) (sym in_year)
    ∙ subst (λ (x : ℕ). year_start y + n - 1 - year_start x
    - month_start x (begun (month_start x) 11 (year_start y + n - 1 - year_start x)) + 1 ≡ d) h.year_is h.day_is in
    sym (ap (λ (x : ℕ). day_in_year y x (n - 1 - month_start y (begun (month_start y) 11 (n - 1)) + 1)) month
    ∙ ap (λ (x : ℕ). day_in_year y m x) day) ∙ day_at y (n - 1) (omega (arith, h.first, h.last))
    ∙ ap (λ (x : ℕ). Some x) more

pub dated : (y m d n : ℕ) → 1800 ≤ y → y ≤ 2199
    → ((day_in_year y m d ≡ Some n) → IsDatedSo y m d n) × (IsDatedSo y m d n → day_in_year y m d ≡ Some n)
dated y m d n low high =
    (λ e. dated_by y m d n (day_in_year-is y m d n e) low high, λ h. dated_back y m d n h)

-- the calendar's day of the year
pub day_in_year-jiff : (year : ℤ) (y m d n : ℕ) → year ≡ pos y → 1 ≤ m → m ≤ 12 → 1 ≤ d
    → d ≤ jiff.days_in_month year m
    → n ≡ days_of_months year (m - 1) + d → Some n ≡ day_in_year y m d
day_in_year-jiff year y m d n e low high first last is =
    let most : d ≤ jiff.days_in_month (pos y) m = subst (λ (x : ℤ). d ≤ jiff.days_in_month x m) e last in
    let here : n ≡ days_of_months (pos y) (m - 1) + d = is ∙ ap (λ (x : ℤ). days_of_months x (m - 1) + d) e in
    sym (day_in_year-yes y m d low high first (omega (arith, most, days_in_month-jiff y m low high))
    ∙ ap (λ (x : ℕ). Some x)
    (let same : month_start y (m - 1) + d ≡ n =
    omega (arith, here, month_start-days_of_months y (m - 1) (omega arith)) in same))

-- ---- days
-- a day of the years of instants lies in its year
pub record IsInYear (day : ℕ) : Type 0 where
  pub low : 1800 ≤ year_of day
  pub high : year_of day ≤ 2199
  pub begins : year_start (year_of day) ≤ day
  pub within : day - year_start (year_of day) < days_in_year (year_of day)

pub day_in_its_year : (day : ℕ) → day < 146_097 → IsInYear day
day_in_its_year day few =
    let last = begun_is (λ n. year_start (1800 + n)) 399 day years_rise (omega arith) in
    let k : ℕ = begun (λ n. year_start (1800 + n)) 399 day in
    let next : 1800 + suc k ≡ suc (1800 + k) = omega arith in
    let long = year_next (1800 + k) (omega arith) in
    record {
      low = omega arith;
      high = omega (arith, last.within);
      begins = last.begins;
      within = ⊎_elim
          (λ l. omega (arith, rw (next, long) at (last.next l), last.begins))
          (λ g. let e : k ≡ 399 = omega (arith, last.within) in
          let end : year_start (suc (1800 + k)) ≡ 146_097 = rw e refl in
          omega (arith, long, end, few, last.begins))
          (cases_lt k 399);
    }

-- a place in a year is a day of it
pub day_of_place : (y place : ℕ) → 1800 ≤ y → y ≤ 2199 → place < days_in_year y
    → (year_of (year_start y + place) ≡ y) × (place_in_year (year_start y + place) ≡ place)
day_of_place y place low high within =
    let k : ℕ = y - 1800 in
    let there : 1800 + k ≡ y = omega arith in
    let year : year_of (year_start y + place) ≡ y =
    rw there at (year_of-place k place (omega arith) (rw there within)) in (
      year,
      ap (λ (x : ℕ). year_start y + place - year_start x) year
          ∙ (let e : year_start y + place - year_start y ≡ place =
          omega arith in e),
    )

-- the microseconds from 1800 to a time, by its day
pub microsecond_of-days : (t : Parts) (day : ℕ) → day_of t.year t.day +ℤ pos 62_091 ≡ pos day
    → microsecond_of t +ℤ pos 5_364_662_400_000_000
    ≡ pos (((day * 24 + t.hour) * 60 + t.minute) * 60 * 1_000_000 + t.second * 1_000_000 + t.fraction * 100)
microsecond_of-days t day e = omega (arith, signed_arith, e)

pub day_of-place : (y n : ℕ) → 1800 ≤ y → 1 ≤ n → day_of y n +ℤ pos 62_091 ≡ pos (year_start y + (n - 1))
day_of-place y n low first = omega (arith, signed_arith, year_start-day_of y low)
