-- The texts of an instant, by which a word for a time is known, whoever reads it: what is written of the instant as a
-- whole, with its month or with the day of its year, of which zeros at the end may be left out.
use Rattle.std.specs.Prelude.{◌≡◌, ◌⊎◌, ℕ, ◌+◌, ◌*◌, ◌^◌, ◌≤◌, ◌<◌, List, [], ◌∷◌, ◌++◌, length, codes, ℤ, pos, ◌+ℤ◌}
use Rattle.mseed_time.specs.Calendar.{year_start}
use Rattle.mseed_time.specs.Text.{clock_text, date_text, ordinal_text}

-- a date of the years 1900 to 2100, by its day from 1800-01-01
pub record IsDateText (text : List ℕ) (day : ℕ) : Type 0 where
  pub from_1900 : year_start 1900 ≤ day
  pub to_2100 : day < year_start 2101
  pub text_is : (text ≡ date_text day) ⊎ (text ≡ ordinal_text day)

-- what may be left out at the end of a time of day, where it is so: digits of the fraction but its first, the fraction
-- with its point, the second and the minute with what follows, and all of it
abbrev pub endings : List (List ℕ)
endings = [] ∷ codes "0" ∷ codes "00" ∷ codes "000" ∷ codes "0000" ∷ codes "00000" ∷ codes ".000000"
    ∷ codes ":00.000000" ∷ codes ":00:00.000000" ∷ codes "T00:00:00.000000" ∷ []

abbrev pub IsOneOf : List (List ℕ) → List ℕ → Type 0
IsOneOf [] text = ⊥
IsOneOf (one ∷ others) text = (text ≡ one) ⊎ IsOneOf others text

-- a time of day, by its microseconds
pub record IsClockText (text : List ℕ) (micros : ℕ) : Type 0 where
  pub within : micros < 86_400_000_000
  pub ending : List ℕ
  pub left_out : IsOneOf endings ending
  pub whole : text ++ ending ≡ codes "T" ++ clock_text micros

-- The same with second 60, which is the next minute's first: its text is that of second 59, with 60 in its place behind
-- the seven characters of the hour and the minute.
pub record IsLeapText (text : List ℕ) (micros : ℕ) : Type 0 where
  pub minute : List ℕ
  pub fraction : List ℕ
  pub before : ℕ
  pub minute_is : length minute ≡ 7
  pub text_is : text ≡ minute ++ codes "60" ++ fraction
  pub before_is : IsClockText (minute ++ codes "59" ++ fraction) before
  pub micros_is : micros ≡ before + 10 ^ 6

-- a word for an instant: a date, a time of day and a `Z`, or none
pub record IsWordFor (word : List ℕ) (instant : ℤ) : Type 0 where
  pub day : ℕ
  pub micros : ℕ
  pub date : List ℕ
  pub clock : List ℕ
  pub zone : List ℕ
  pub instant_is : instant +ℤ pos 5_364_662_400_000_000 ≡ pos (86_400_000_000 * day + micros)
  pub date_is : IsDateText date day
  pub clock_is : IsClockText clock micros ⊎ IsLeapText clock micros
  pub zone_is : (zone ≡ []) ⊎ (zone ≡ codes "Z")
  pub word_is : word ≡ date ++ clock ++ zone
