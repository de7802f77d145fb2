-- The days that a time can name.
use Rattle.std.proofs.Common.{ℕ, ◌≤◌, Bool, true, false, cond, arith, ◌≤ℤ◌, pos}
use Rattle.std.specs.Prelude.{neg_ℤ}
use Rattle.std.proofs.lemmas.Int.{ints}
use Rattle.mseed_time.specs.Btime.{day_of, days_in_year, is_leap}

pub year_days : (year : ℕ) → days_in_year year ≤ 366
year_days year = by (is_leap year)
  where
    by : (b : Bool) → cond b 366 365 ≤ 366
    by true = omega arith
    by false = omega arith

pub day_within : (year day : ℕ) → 1900 ≤ year → year ≤ 2100 → 1 ≤ day → day ≤ 366
    → (neg_ℤ (pos 30_000) ≤ℤ day_of year day) × (day_of year day ≤ℤ pos 50_000)
day_within year day low high first last =
    (omega (arith, ints, low, high, first, last), omega (arith, ints, low, high, first, last))
