-- The civil date of a day, by counting the years and the months that have begun.
use Rattle.std.specs.Prelude.{◌≡◌, ℕ, zero, suc, ◌+◌, ◌-◌, ◌*◌, ◌≤◌, ◌==◌, ◌&&◌, nat_le, nat_lt, if◌then◌else◌}
use Rattle.std.specs.Prelude.{List, [], ◌∷◌, slice_index, Option, Some, None}
use Rattle.mseed_time.specs.Btime.{days_in_year, is_leap, is_within, leap_days}

-- of the spans 1 to n, each of which begins at its start, how many have begun at a place
unfoldable pub begun : (ℕ → ℕ) → ℕ → ℕ → ℕ
begun start zero place = 0
begun start (suc n) place = begun start n place + (if nat_le (start (suc n)) place then 1 else 0)

-- the days from 1800-01-01 to the first day of a year from 1800 on
abbrev pub year_start : ℕ → ℕ
year_start year = 365 * year + leap_days year - (365 * 1800 + leap_days 1800)

-- the year of a day that is counted from 1800-01-01 and lies before 2200
abbrev pub year_of : ℕ → ℕ
year_of day = 1800 + begun (λ n. year_start (1800 + n)) 399 day

-- the days of a common year before each of its months
abbrev pub month_table : List ℕ
month_table = 0 ∷ 31 ∷ 59 ∷ 90 ∷ 120 ∷ 151 ∷ 181 ∷ 212 ∷ 243 ∷ 273 ∷ 304 ∷ 334 ∷ []

-- the days of the year before the month that comes after the first n: 29 February comes before March
abbrev pub month_start : ℕ → ℕ → ℕ
month_start year n =
    slice_index month_table n + (if nat_lt 1 n then (if is_leap year then 1 else 0) else 0)

-- the place of the day in its year, from 0
abbrev pub place_in_year : ℕ → ℕ
place_in_year day = day - year_start (year_of day)

-- how many months of the year are over
abbrev pub months_over : ℕ → ℕ
months_over day = begun (month_start (year_of day)) 11 (place_in_year day)

-- the day of the month, from 1
abbrev pub day_of_month : ℕ → ℕ
day_of_month day = place_in_year day - month_start (year_of day) (months_over day) + 1

-- ---- a date by its month
-- the days of a month from 1 to 12: up to the first of the next one, of the last one up to the end of the year
abbrev pub days_in_month : ℕ → ℕ → ℕ
days_in_month year month =
    (if month == 12 then days_in_year year else month_start year month) - month_start year (month - 1)

-- the day of the year, from 1, of a day of a month, where the year has that day
abbrev pub day_in_year : ℕ → ℕ → ℕ → Option ℕ
day_in_year year month day =
    if is_within 1 12 month && is_within 1 (days_in_month year month) day
    then Some (month_start year (month - 1) + day) else None

-- the day of the year, from 1, is the one that the text of a date has as this day of this month
pub record IsDatedSo (year month day n : ℕ) : Type 0 where
  pub first : 1 ≤ n
  pub last : n ≤ days_in_year year
  pub year_is : year_of (year_start year + n - 1) ≡ year
  pub month_is : months_over (year_start year + n - 1) + 1 ≡ month
  pub day_is : day_of_month (year_start year + n - 1) ≡ day
