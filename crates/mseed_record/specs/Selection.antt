-- Which records are asked for.
use Rattle.std.specs.Prelude.{⊤, ◌≡◌, ◌≢◌, ◌⊎◌, ℕ, ◌<◌, ◌-◌, ◌*◌, ◌^◌, ◌&&◌, Bool, true, false, if◌then◌else◌, List}
use Rattle.std.specs.Prelude.{Option, Some, None, ℤ, pos, ◌-ℤ◌, ◌*ℤ◌, ◌≤ℤ◌, ◌<ℤ◌, int_le, int_lt}
use Rattle.mseed_time.specs.Btime.{first_fault}
use Rattle.mseed_time.specs.Rate.{Ratio, rate_of}
use Rattle.mseed_time.specs.declared.fault.TimeFault.{TimeFault}
use Rattle.mseed_record.specs.Header.{key_at, time_at, samples_at, factor_at, multiplier_at}
use Rattle.mseed_record.specs.View.{View, start_of}
use Rattle.mseed_record.specs.Pattern.{IsOfChannels, is_of_channels}
use Rattle.mseed_record.specs.declared.answer.Answer.{Answer}
use Rattle.mseed_record.specs.declared.answer.Answer.TheVariants.{AskedFor, Left, NoTime}

-- What is asked for: the channels that these patterns match, and a window from one instant up to another, which isn't
-- part of it, in microseconds from 1970-01-01T00:00:00. What is `None` bounds nothing.
pub record Selection : Type 0 where
  pub channels : Option (List ℕ)
  pub from : Option ℤ
  pub until : Option ℤ

-- all records are asked for
abbrev pub everything : Selection
everything = record { channels = None; from = None; until = None }

-- the rate of a record, by its header
abbrev pub rate_in : View → Option Ratio
rate_in v = rate_of (factor_at v.order v.bytes) (multiplier_at v.order v.bytes)

-- the first field of a record's start that is out of its range
abbrev pub start_fault : View → Option TimeFault
start_fault v = first_fault (time_at v.order v.bytes)

-- The last of `samples` samples is at an instant or after it: the first is at `start`, and the last (samples - 1)
-- periods later. Without a rate, or with no samples, there is `start` alone.
abbrev pub LastsTo : Option Ratio → ℤ → ℕ → ℤ → Type 0
LastsTo None start samples instant = instant ≤ℤ start
LastsTo (Some rate) start samples instant =
    ((instant -ℤ start) *ℤ pos rate.num) ≤ℤ pos ((samples - 1) * rate.den * 10 ^ 6)

-- a record doesn't end before the window begins
abbrev pub Reaches : Option ℤ → View → Type 0
Reaches None v = ⊤
Reaches (Some from) v = LastsTo (rate_in v) (start_of v) (samples_at v.order v.bytes) from

-- it begins before the window ends
abbrev pub BeginsBefore : Option ℤ → View → Type 0
BeginsBefore None v = ⊤
BeginsBefore (Some until) v = start_of v <ℤ until

-- a record stands in the window; with a bound its start has to be known
abbrev pub IsInWindow : Option ℤ → Option ℤ → View → Type 0
IsInWindow None None v = ⊤
IsInWindow None (Some until) v = (start_fault v ≡ None) × Reaches None v × BeginsBefore (Some until) v
IsInWindow (Some from) until v = (start_fault v ≡ None) × Reaches (Some from) v × BeginsBefore until v

-- a record is asked for
pub record IsAskedFor (s : Selection) (v : View) : Type 0 where
  pub channel : IsOfChannels s.channels (key_at v.bytes)
  pub window : IsInWindow s.from s.until v

-- a record of a channel that is asked for lacks a time, so that nobody can say whether it stands in the window
pub record LacksTime (s : Selection) (v : View) : Type 0 where
  pub channel : IsOfChannels s.channels (key_at v.bytes)
  pub bounded : (s.from ≢ None) ⊎ (s.until ≢ None)
  pub unknown : start_fault v ≢ None

-- Sample `i` of those that begin at `start` is `i` periods after it. It is at an instant or after it, or before it.
abbrev pub IsSampleFrom : Option ℤ → ℤ → Ratio → ℕ → Type 0
IsSampleFrom None start rate i = ⊤
IsSampleFrom (Some from) start rate i = ((from -ℤ start) *ℤ pos rate.num) ≤ℤ pos (i * rate.den * 10 ^ 6)

abbrev pub IsSampleBefore : Option ℤ → ℤ → Ratio → ℕ → Type 0
IsSampleBefore None start rate i = ⊤
IsSampleBefore (Some until) start rate i = pos (i * rate.den * 10 ^ 6) <ℤ ((until -ℤ start) *ℤ pos rate.num)

-- a sample of a record with a known start and a rate is in the window
pub record HasSampleIn (from until : Option ℤ) (v : View) (rate : Ratio) (i : ℕ) : Type 0 where
  pub known : start_fault v ≡ None
  pub rated : rate_in v ≡ Some rate
  pub sample : i < samples_at v.order v.bytes
  pub from_on : IsSampleFrom from (start_of v) rate i
  pub before : IsSampleBefore until (start_of v) rate i

-- ---- the same, computed
abbrev pub lasts_to : Option Ratio → ℤ → ℕ → ℤ → Bool
lasts_to None start samples instant = int_le instant start
lasts_to (Some rate) start samples instant =
    int_le ((instant -ℤ start) *ℤ pos rate.num) (pos ((samples - 1) * rate.den * 10 ^ 6))

abbrev pub reaches : Option ℤ → View → Bool
reaches None v = true
reaches (Some from) v = lasts_to (rate_in v) (start_of v) (samples_at v.order v.bytes) from

abbrev pub begins_before : Option ℤ → View → Bool
begins_before None v = true
begins_before (Some until) v = int_lt (start_of v) until

abbrev pub answer_by : Option TimeFault → Bool → Answer
answer_by (Some fault) is_in_window = NoTime
answer_by None is_in_window = if is_in_window then AskedFor else Left

abbrev pub answer_in : Option ℤ → Option ℤ → View → Answer
answer_in None None v = AskedFor
answer_in None (Some until) v = answer_by (start_fault v) (reaches None v && begins_before (Some until) v)
answer_in (Some from) until v = answer_by (start_fault v) (reaches (Some from) v && begins_before until v)

abbrev pub answer_of : Selection → View → Answer
answer_of s v = if is_of_channels s.channels (key_at v.bytes) then answer_in s.from s.until v else Left

abbrev pub is_asked : Answer → Bool
is_asked AskedFor = true
is_asked Left = false
is_asked NoTime = false

abbrev pub is_without_time : Answer → Bool
is_without_time AskedFor = false
is_without_time Left = false
is_without_time NoTime = true

-- whether a record is asked for
abbrev pub asks_for : Selection → View → Bool
asks_for s v = is_asked (answer_of s v)

-- whether it lacks a time
abbrev pub lacks_time : Selection → View → Bool
lacks_time s v = is_without_time (answer_of s v)
