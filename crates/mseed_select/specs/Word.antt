-- What a word for a time means: a date by its month or by its day of the year, with a time of day or without.
use Rattle.std.specs.Prelude.{ℕ, ◌+◌, ◌-◌, ◌*◌, ◌^◌, ◌==◌, ◌&&◌, Bool, if◌then◌else◌, List, [], ◌∷◌}
use Rattle.std.specs.Prelude.{length, take, slice_index, fold, Option, Some, None, ℤ, pos, ◌+ℤ◌}
use Rattle.std.specs.List.{list_all, slice_split}
use Rattle.mseed_time.specs.Btime.{days_in_year, is_within, microsecond_of}
use Rattle.mseed_time.specs.Calendar.{day_in_year}
use Rattle.mseed_select.specs.declared.clocks.Clock.{Clock}
use Rattle.mseed_select.specs.declared.dates.Date.{Date}

-- the number of some digits
abbrev pub number_of : List ℕ → ℕ
number_of digits = fold (λ n c. 10 * n + (c - 48)) 0 digits

abbrev pub are_digits : List ℕ → Bool
are_digits text = list_all (λ c. is_within 48 57 c) text

-- the number from low to high that `count` digits give
abbrev pub number_in : ℕ → ℕ → ℕ → List ℕ → Option ℕ
number_in count low high text =
    if (length text == count) && are_digits text && is_within low high (number_of text)
    then Some (number_of text) else None

-- a date by its year and its day of the year, where there is such a day
abbrev pub date_by_day : ℕ → Option ℕ → Option Date
date_by_day year (Some day) = Some (record { year = year; day = day })
date_by_day year None = None

-- the date of a day in a month
abbrev pub date_by_month : ℕ → Option ℕ → Option ℕ → Option Date
date_by_month year (Some month) (Some day) = date_by_day year (day_in_year year month day)
date_by_month year (Some month) None = None
date_by_month year None day = None

-- by what stands after the year, between `-`: the month and the day in it, or the day of the year
abbrev pub date_in_year : Option ℕ → List (List ℕ) → Option Date
date_in_year None parts = None
date_in_year (Some year) [] = None
date_in_year (Some year) (day ∷ []) = date_by_day year (number_in 3 1 (days_in_year year) day)
date_in_year (Some year) (month ∷ day ∷ []) = date_by_month year (number_in 2 0 99 month) (number_in 2 0 99 day)
date_in_year (Some year) (a ∷ b ∷ c ∷ more) = None

abbrev pub date_by_parts : List (List ℕ) → Option Date
date_by_parts [] = None
date_by_parts (year ∷ parts) = date_in_year (number_in 4 1900 2100 year) parts

abbrev pub date_of : List ℕ → Option Date
date_of text = date_by_parts (slice_split (λ c. c == 45) text)

-- the microseconds of one to six digits after the point
abbrev pub fraction_of : List ℕ → Option ℕ
fraction_of text =
    if is_within 1 6 (length text) && are_digits text then Some (number_of text * 10 ^ (6 - length text)) else None

abbrev pub clock_at : ℕ → Option ℕ → Option ℕ → Option ℕ → Option Clock
clock_at hour (Some minute) (Some second) (Some micros) =
    Some (record { hour = hour; minute = minute; second = second; micros = micros })
clock_at hour (Some minute) (Some second) None = None
clock_at hour (Some minute) None micros = None
clock_at hour None second micros = None

-- by what stands around the point of the seconds; second 60 is the next minute's first
abbrev pub clock_by_seconds : ℕ → Option ℕ → List (List ℕ) → Option Clock
clock_by_seconds hour minute [] = None
clock_by_seconds hour minute (second ∷ []) = clock_at hour minute (number_in 2 0 60 second) (Some 0)
clock_by_seconds hour minute (second ∷ fraction ∷ []) =
    clock_at hour minute (number_in 2 0 60 second) (fraction_of fraction)
clock_by_seconds hour minute (a ∷ b ∷ c ∷ more) = None

-- by what stands after the hour, between `:`; what is left out is 0
abbrev pub clock_in_hour : Option ℕ → List (List ℕ) → Option Clock
clock_in_hour None parts = None
clock_in_hour (Some hour) [] = clock_at hour (Some 0) (Some 0) (Some 0)
clock_in_hour (Some hour) (minute ∷ []) = clock_at hour (number_in 2 0 59 minute) (Some 0) (Some 0)
clock_in_hour (Some hour) (minute ∷ second ∷ []) =
    clock_by_seconds hour (number_in 2 0 59 minute) (slice_split (λ c. c == 46) second)
clock_in_hour (Some hour) (a ∷ b ∷ c ∷ more) = None

abbrev pub clock_by_parts : List (List ℕ) → Option Clock
clock_by_parts [] = None
clock_by_parts (hour ∷ parts) = clock_in_hour (number_in 2 0 23 hour) parts

abbrev pub clock_of : List ℕ → Option Clock
clock_of text = clock_by_parts (slice_split (λ c. c == 58) text)

-- the first of a day
abbrev pub midnight : Clock
midnight = record { hour = 0; minute = 0; second = 0; micros = 0 }

-- the microseconds from 1970-01-01T00:00:00 to a time of a day
abbrev pub instant_at : Date → Clock → ℤ
instant_at date clock = microsecond_of (record {
  year = date.year;
  day = date.day;
  hour = clock.hour;
  minute = clock.minute;
  second = clock.second;
  fraction = 0;
}) +ℤ pos clock.micros

abbrev pub instant_by : Option Date → Option Clock → Option ℤ
instant_by (Some date) (Some clock) = Some (instant_at date clock)
instant_by (Some date) None = None
instant_by None clock = None

-- by what stands around `T`: a date alone is its first instant
abbrev pub time_by_parts : List (List ℕ) → Option ℤ
time_by_parts [] = None
time_by_parts (date ∷ []) = instant_by (date_of date) (Some midnight)
time_by_parts (date ∷ clock ∷ []) = instant_by (date_of date) (clock_of clock)
time_by_parts (a ∷ b ∷ c ∷ more) = None

-- a word without the `Z` that may end it
abbrev pub without_zone : List ℕ → List ℕ
without_zone word = if slice_index word (length word - 1) == 90 then take (length word - 1) word else word

-- the instant of a word, in microseconds from 1970-01-01T00:00:00 (UTC); `None` of what is no word for a time
abbrev pub time_of : List ℕ → Option ℤ
time_of word = time_by_parts (slice_split (λ c. c == 84) (without_zone word))
