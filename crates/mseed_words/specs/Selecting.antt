-- Which records the words of a command line ask for.
use Rattle.std.specs.Prelude.{ℕ, Bool, true, false, ◌||◌, ◌&&◌, ◌==◌, List, if◌then◌else◌, ℤ, int_lt, length, codes}
use Rattle.std.specs.Prelude.{Option, Some, None, is_some, Result, Ok, Err}
use Rattle.std.specs.List.{after_first, before_first}
use Rattle.clap.specs.Walk.{Row, Text, first_of}
use Rattle.mseed_record.specs.Pattern.{are_patterns}
use Rattle.mseed_record.specs.Selection.{Selection}
use Rattle.mseed_select.specs.Word.{time_of}
use Rattle.mseed_words.specs.Mistakes.{and_then, mapped, name_text}
use Rattle.mseed_words.specs.Numbers.{number_within}
use Rattle.mseed_words.specs.declared.mistake.Mistake.{Mistake}
use Rattle.mseed_words.specs.declared.mistake.Mistake.TheVariants.{Value}
use Rattle.mseed_words.specs.declared.mistake.Valued.{Valued}
use Rattle.mseed_words.specs.declared.mistake.Valued.TheVariants.{Channels, From, Until}
use Rattle.mseed_words.specs.declared.mistake.Wanted.{Wanted}
use Rattle.mseed_words.specs.declared.mistake.Wanted.TheVariants.{Patterns, Time, Day, Clock, Later}
use Rattle.mseed_words.specs.declared.request.Request.{Request}
use Rattle.mseed_words.specs.declared.request.Request.TheVariants.{Audit, AuditEach, Show, Select, Repack}
use Rattle.mseed_words.specs.declared.request.Request.TheVariants.{RepackStretches}

-- patterns of channels, where a text is given
abbrev pub channels_in : Option Text → Result (Option Text) Mistake
channels_in None = Ok None
channels_in (Some text) = if are_patterns text then Ok (Some text) else Err (Value Channels Patterns)

abbrev pub channels_of : List Row → Result (Option Text) Mistake
channels_of rows = channels_in (first_of (codes "channels") rows)

-- `digits` decimal digits
abbrev pub is_number_of : ℕ → Text → Bool
is_number_of digits text = length text == digits && is_some (number_within digits text)

-- what stands before the first hyphen, and what stands after it
abbrev pub before_hyphen : Text → Text
before_hyphen text = before_first (λ c. c == 45) text

abbrev pub after_hyphen : Text → Text
after_hyphen text = after_first (λ c. c == 45) text

-- the form of a month and its day
abbrev pub is_month_and_day : Text → Bool
is_month_and_day text = is_number_of 2 (before_hyphen text) && is_number_of 2 (after_hyphen text)

-- the form of a date: a year, and a day of the year, or a month and its day
abbrev pub is_dated : Text → Bool
is_dated date =
    is_number_of 4 (before_hyphen date)
    && (is_number_of 3 (after_hyphen date) || is_month_and_day (after_hyphen date))

-- What a word lacks that is no time, by what stands before its first `T`: where that is a time, a time of day; where it
-- has the form of a date, a day that there is; and else the form.
abbrev pub wanted_by : Text → Wanted
wanted_by date = if is_some (time_of date) then Clock else if is_dated date then Day else Time

abbrev pub wanted_time : Text → Wanted
wanted_time word = wanted_by (before_first (λ c. c == 84) word)

-- the instant of a word, where one is given
abbrev pub instant_by : Valued → Text → Option ℤ → Result (Option ℤ) Mistake
instant_by option word None = Err (Value option (wanted_time word))
instant_by option word (Some instant) = Ok (Some instant)

abbrev pub instant_in : Valued → Option Text → Result (Option ℤ) Mistake
instant_in option None = Ok None
instant_in option (Some word) = instant_by option word (time_of word)

abbrev pub instant_of : Valued → List Row → Result (Option ℤ) Mistake
instant_of option rows = instant_in option (first_of (name_text option) rows)

-- a window has its end after its begin, where both are given
abbrev pub is_window : Option ℤ → Option ℤ → Bool
is_window None until = true
is_window (Some from) None = true
is_window (Some from) (Some until) = int_lt from until

abbrev pub selection_by : Option Text → Option ℤ → Option ℤ → Result Selection Mistake
selection_by channels from until =
    if is_window from until then Ok (record { channels = channels; from = from; until = until })
    else Err (Value Until Later)

-- what the three options ask for
abbrev pub selection_in : List Row → Result Selection Mistake
selection_in rows =
    and_then (channels_of rows) (λ channels. and_then (instant_of From rows) (λ from.
    and_then (instant_of Until rows) (λ until. selection_by channels from until)))

-- the first of them that is given
abbrev pub option_given : List Row → Option Valued
option_given rows =
    if is_some (first_of (codes "channels") rows) then Some Channels
    else if is_some (first_of (codes "from") rows) then Some From
    else if is_some (first_of (codes "until") rows) then Some Until else None

-- what can be done with some of the records alone
abbrev pub takes_selection : Request → Bool
takes_selection Audit = true
takes_selection AuditEach = true
takes_selection Show = true
takes_selection Select = true
takes_selection (Repack packing) = true
takes_selection (RepackStretches packing leave) = true
takes_selection request = false

-- which records something is requested of, where the words say: else of all
abbrev pub asked_by : Bool → List Row → Result (Option Selection) Mistake
asked_by false rows = Ok None
asked_by true rows = if is_some (option_given rows) then mapped Some (selection_in rows) else Ok None

abbrev pub asked_of : Request → List Row → Result (Option Selection) Mistake
asked_of request rows = asked_by (takes_selection request) rows
