-- An instant as text, in the form of ISO 8601: 2024-01-01T00:00:00.000000.
use Rattle.std.specs.Prelude.{ℕ, zero, suc, ◌+◌, ◌/◌, ◌%◌, ◌^◌, List, [], ◌∷◌, ◌++◌, codes, ℤ, pos, ◌+ℤ◌, unsigned_abs}
use Rattle.mseed_time.specs.declared.fault.TimeFault.{TimeFault}
use Rattle.mseed_time.specs.declared.fault.TimeFault.TheVariants.{Year, Day, Hour, Minute, Second, Fraction}
use Rattle.mseed_time.specs.Calendar.{year_of, months_over, day_of_month, place_in_year}

-- a number in n decimal digits, its last ones, with leading zeros
abbrev pub padded_decimal : ℕ → ℕ → List ℕ
padded_decimal zero number = []
padded_decimal (suc n) number = (48 + number / 10 ^ n % 10) ∷ padded_decimal n number

-- the microseconds from 1800-01-01T00:00:00, where instants begin
abbrev pub since_1800 : ℤ → ℕ
since_1800 t = unsigned_abs (t +ℤ pos 5_364_662_400_000_000)

-- a date, by its day from 1800-01-01
abbrev pub date_text : ℕ → List ℕ
date_text day =
    padded_decimal 4 (year_of day) ++ codes "-" ++ padded_decimal 2 (months_over day + 1) ++ codes "-"
    ++ padded_decimal 2 (day_of_month day)

-- the same by the day of the year, as 2024-135
abbrev pub ordinal_text : ℕ → List ℕ
ordinal_text day = padded_decimal 4 (year_of day) ++ codes "-" ++ padded_decimal 3 (place_in_year day + 1)

-- a time of day, by its microseconds
abbrev pub clock_text : ℕ → List ℕ
clock_text t =
    padded_decimal 2 (t / 3_600_000_000) ++ codes ":" ++ padded_decimal 2 (t / 60_000_000 % 60) ++ codes ":"
    ++ padded_decimal 2 (t / 1_000_000 % 60) ++ codes "." ++ padded_decimal 6 (t % 1_000_000)

-- an instant: its date and its time of day
unfoldable pub time_text : ℤ → List ℕ
time_text t = date_text (since_1800 t / 86_400_000_000) ++ codes "T" ++ clock_text (since_1800 t % 86_400_000_000)

-- the word for a field of a time
abbrev pub fault_word : TimeFault → List ℕ
fault_word Year = codes "year"
fault_word Day = codes "day"
fault_word Hour = codes "hour"
fault_word Minute = codes "minute"
fault_word Second = codes "second"
fault_word Fraction = codes "fraction"
