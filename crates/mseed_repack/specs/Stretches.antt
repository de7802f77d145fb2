-- The stretches of a channel: runs of records, in each of which one clock goes on.
use Rattle.std.specs.Prelude.{⊤, ◌≡◌, ◌≢◌, ℕ, ◌+◌, ◌*◌, ◌^◌, ◌≤◌, List, [], ◌∷◌, ◌++◌, Some, ℤ, pos, ◌+ℤ◌, ◌-ℤ◌, ◌*ℤ◌}
use Rattle.std.specs.Prelude.{◌<◌, unsigned_abs}
use Rattle.mseed_time.specs.Join.{step_of}
pub use Rattle.mseed_time.specs.Join.{drift_of}
use Rattle.mseed_time.specs.Rate.{Ratio, SameRate}
use Rattle.mseed_record.specs.declared.leap.Leap.TheVariants.{Both}
use Rattle.mseed_record.specs.View.{View, start_of, leap_of, step_in}
use Rattle.mseed_steim.specs.Reading.{count_of}
use Rattle.mseed_audit.specs.Judging.{known_rate}

-- how many samples records have
abbrev pub samples_of : List View → ℕ
samples_of [] = 0
samples_of (v ∷ vs) = count_of v + samples_of vs

-- the microseconds that their leap seconds add to the time between two readings of the clock
abbrev pub added_by : List View → ℤ
added_by [] = pos 0
added_by (v ∷ vs) = step_of (step_in (leap_of v.bytes)) +ℤ added_by vs

-- within a quarter of a sample period, the quarter included
abbrev pub IsOnTime : ℤ → ℕ → Ratio → ℤ → ℤ → Type 0
IsOnTime start n rate added next = 4 * unsigned_abs (drift_of start n rate added next) ≤ rate.den * 10 ^ 6

-- the last of a record and those after it
abbrev pub last_of : View → List View → View
last_of v [] = v
last_of v (w ∷ ws) = last_of w ws

-- The records of a stretch so far, the first and the rest, are followed by a record of the same rate that begins on
-- time, and the last of them says which leap second it carries.
pub record GoesOnAt (rate next : Ratio) (first : View) (rest : List View) (v : View) : Type 0 where
  pub rate_is : known_rate first ≡ Some rate
  pub next_is : known_rate v ≡ Some next
  pub same : SameRate rate next
  pub one_step : leap_of (last_of first rest).bytes ≢ Both
  pub on_time : IsOnTime (start_of first) (samples_of (first ∷ rest)) rate (added_by (first ∷ rest)) (start_of v)

-- a record goes on with the records of a stretch so far
abbrev pub GoesOn : List View → View → Type 0
GoesOn [] v = ⊥
GoesOn (first ∷ rest) v = (rate : Ratio) × ((next : Ratio) × GoesOnAt rate next first rest v)

-- after these records each next one goes on with all before it
abbrev pub AllGoOn : List View → List View → Type 0
AllGoOn before [] = ⊤
AllGoOn before (v ∷ vs) = GoesOn before v × AllGoOn (before ++ v ∷ []) vs

-- a stretch: there is a record, and each after it goes on with those before
abbrev pub IsStretch : List View → Type 0
IsStretch [] = ⊥
IsStretch (v ∷ vs) = AllGoOn (v ∷ []) vs

-- the next record, if there is one, doesn't go on with these
abbrev pub EndsBefore : List View → List View → Type 0
EndsBefore s [] = ⊤
EndsBefore s (v ∷ vs) = ¬ (GoesOn s v)

-- the records begin with this stretch, and the rest doesn't go on with it
pub record IsFirstStretch (vs s rest : List View) : Type 0 where
  pub stretch : IsStretch s
  pub parts : vs ≡ s ++ rest
  pub ends : EndsBefore s rest

-- the records are cut into these stretches, up to some that are left
abbrev pub AreStretchesUpTo : List View → List (List View) → List View → Type 0
AreStretchesUpTo vs [] left = vs ≡ left
AreStretchesUpTo vs (s ∷ ss) left = (rest : List View) × (IsFirstStretch vs s rest × AreStretchesUpTo rest ss left)

-- all of the records are
abbrev pub AreStretches : List View → List (List View) → Type 0
AreStretches vs ss = AreStretchesUpTo vs ss []

-- The exact instant of the sample after n others, in microseconds times num: n periods after the first one, which
-- began at `start`, less what the leap seconds before it added.
abbrev pub instant_times : ℤ → ℕ → Ratio → ℤ → ℤ
instant_times start n rate added = start *ℤ pos rate.num +ℤ pos (n * rate.den * 10 ^ 6) -ℤ added *ℤ pos rate.num

-- The sample of a record after n others of it, where these records stand before it in its stretch, is no further than
-- a quarter of its period from where the record has it; the rate is that of the stretch's first record.
abbrev pub StaysNear : Ratio → ℤ → List View → View → ℕ → Type 0
StaysNear rate start before v n = 4
    * unsigned_abs (instant_times (start_of v) n rate (pos 0)
    -ℤ instant_times start (samples_of before + n) rate (added_by before)) ≤ rate.den * 10 ^ 6

-- of each record of a stretch that begins with this one, at this rate
abbrev pub AllStayNear : View → Ratio → List View → Type 0
AllStayNear first rate s =
    (before back : List View) (v : View) (n : ℕ) → s ≡ before ++ v ∷ back → n < count_of v
    → StaysNear rate (start_of first) before v n
