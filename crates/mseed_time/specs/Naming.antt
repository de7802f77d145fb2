-- The pairs of a BTIME and microseconds that name an instant.
use Rattle.std.specs.Prelude.{◌≡◌, ◌⊎◌, ◌≤◌, ℕ, ℤ, pos, neg_ℤ, ◌+ℤ◌, ◌*ℤ◌, ◌≤ℤ◌, ◌<ℤ◌}
use Rattle.mseed_time.specs.Btime.{Parts, IsTime, day_of, microsecond_of}

-- A time and the microseconds of blockette 1001 (SEED manual, chapter 8, blockette 1001, field 4) that
-- name the instant together. The time isn't in a leap second: second 60 would name an instant that
-- second 0 of the next minute names too.
pub record Names (instant : ℤ) (t : Parts) (microseconds : ℤ) : Type 0 where
  pub valid : IsTime t
  pub second : t.second ≤ 59
  pub low : neg_ℤ (pos 50) ≤ℤ microseconds
  pub high : microseconds ≤ℤ pos 49
  pub value : microsecond_of t +ℤ microseconds ≡ instant

-- each such pair is this one
abbrev pub IsOnlyName : ℤ → Parts → ℤ → Type 0
IsOnlyName instant t microseconds =
    (s : Parts) (u : ℤ) → Names instant s u → (t ≡ s) × (microseconds ≡ u)

-- there is none
abbrev pub HasNoName : ℤ → Type 0
HasNoName instant = (t : Parts) (u : ℤ) → ¬ (Names instant t u)

-- the microseconds from 1970-01-01T00:00:00 to the start of a year
abbrev pub year_begins : ℕ → ℤ
year_begins year = day_of year 1 *ℤ pos 86_400_000_000

-- Rounded to a ten-thousandth of a second, the half up, the instant lies in no year from 1900 to 2100.
-- To round, half of one is added, and what is over a whole one dropped; each year begins at a whole one.
abbrev pub IsOutside : ℤ → Type 0
IsOutside instant =
    ((instant +ℤ pos 50) <ℤ year_begins 1900) ⊎ (year_begins 2101 ≤ℤ (instant +ℤ pos 50))
