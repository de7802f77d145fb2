-- BTIME, the 10 bytes of a time (SEED manual, chapter 3, "Binary time"), and the instant that it names.
use Rattle.std.specs.Prelude.{ℕ, ◌+◌, ◌-◌, ◌*◌, ◌/◌, ◌%◌, ◌^◌, ◌≤◌, Bool, not, ◌&&◌, ◌||◌, ◌==◌, nat_le, if◌then◌else◌}
use Rattle.std.specs.Prelude.{List, slice_index, Option, Some, None, ℤ, pos, neg_ℤ, ◌+ℤ◌, ◌-ℤ◌, ◌*ℤ◌, ◌≤ℤ◌}
use Rattle.mseed_time.specs.declared.order.Order.{Order}
use Rattle.mseed_time.specs.declared.fault.TimeFault.{TimeFault}
use Rattle.mseed_time.specs.declared.fault.TimeFault.TheVariants.{Year, Day, Hour, Minute, Second, Fraction}
use Rattle.mseed_time.specs.Fields.{number_at}

-- what a BTIME says: the day of the year from 1, and the fraction in ten-thousandths of a second
pub record Parts : Type 0 where
  pub year : ℕ
  pub day : ℕ
  pub hour : ℕ
  pub minute : ℕ
  pub second : ℕ
  pub fraction : ℕ

-- the fields where they stand: year, day, hour, minute, second, an unused byte, fraction
abbrev pub parts_at : Order → ℕ → List ℕ → Parts
parts_at order offset bytes = record {
  year = number_at order 2 offset bytes;
  day = number_at order 2 (offset + 2) bytes;
  hour = slice_index bytes (offset + 4);
  minute = slice_index bytes (offset + 5);
  second = slice_index bytes (offset + 6);
  fraction = number_at order 2 (offset + 8) bytes;
}

-- every fourth year, but of the centuries only every fourth (Gregorian calendar)
abbrev pub is_leap : ℕ → Bool
is_leap year = (year % 4 == 0) && (not (year % 100 == 0) || (year % 400 == 0))

abbrev pub days_in_year : ℕ → ℕ
days_in_year year = if is_leap year then 366 else 365

abbrev pub is_within : ℕ → ℕ → ℕ → Bool
is_within low high n = nat_le low n && nat_le n high

-- the first field that is out of its range; second 60 is the leap second's
abbrev pub first_fault : Parts → Option TimeFault
first_fault t =
    if not (is_within 1900 2100 t.year) then Some Year
    else if not (is_within 1 (days_in_year t.year) t.day) then Some Day
    else if not (nat_le t.hour 23) then Some Hour
    else if not (nat_le t.minute 59) then Some Minute
    else if not (nat_le t.second 60) then Some Second
    else if not (nat_le t.fraction 9999) then Some Fraction
    else None

-- each field is in its range
abbrev pub IsTime : Parts → Type 0
IsTime t = (1900 ≤ t.year) × (t.year ≤ 2100) × (1 ≤ t.day) × (t.day ≤ days_in_year t.year)
    × (t.hour ≤ 23) × (t.minute ≤ 59) × (t.second ≤ 60) × (t.fraction ≤ 9999)

-- how many leap days the years 1 to y - 1 have
abbrev pub leap_days : ℕ → ℕ
leap_days y = (y - 1) / 4 + (y - 1) / 400 - (y - 1) / 100

-- the days from 1970-01-01 to this day of this year
abbrev pub day_of : ℕ → ℕ → ℤ
day_of year day =
    pos (365 * year + leap_days year + day) -ℤ pos (365 * 1970 + leap_days 1970 + 1)

-- the microseconds from 1970-01-01T00:00:00 to the time; a day has 86,400 seconds
abbrev pub microsecond_of : Parts → ℤ
microsecond_of t =
    (((day_of t.year t.day *ℤ pos 24 +ℤ pos t.hour) *ℤ pos 60 +ℤ pos t.minute) *ℤ pos 60 +ℤ pos t.second)
    *ℤ pos (10 ^ 6) +ℤ pos (100 * t.fraction)

-- the microseconds that a time correction in ten-thousandths of a second adds, where it hasn't been
-- applied yet
abbrev pub shift_of : ℤ → Bool → ℤ
shift_of correction is_applied = if is_applied then pos 0 else correction *ℤ pos 100

-- The instant of a record: its BTIME, the time correction where activity bit 1 isn't set, and the
-- microseconds of blockette 1001.
abbrev pub instant_of : Parts → ℤ → Bool → ℤ → ℤ
instant_of t correction is_applied microseconds =
    microsecond_of t +ℤ shift_of correction is_applied +ℤ microseconds

-- the instants from 1800-01-01T00:00:00.000000 to 2199-12-31T23:59:59.999999
abbrev pub IsInstant : ℤ → Type 0
IsInstant t = (neg_ℤ (pos 5_364_662_400_000_000) ≤ℤ t) × (t ≤ℤ pos 7_258_118_399_999_999)
