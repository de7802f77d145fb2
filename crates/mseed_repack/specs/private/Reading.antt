-- Records that are read into lists that are there.
use Rattle.std.specs.Prelude.{◌≡◌, ◌≢◌, ℕ, ◌+◌, ◌≤◌, ◌^◌, ℤ, List, [], ◌∷◌, length, take, drop}
use Rattle.std.specs.List.{AllByRecursion, filter}
use Rattle.mseed_time.specs.declared.outcome.LeapStep.{LeapStep}
use Rattle.mseed_record.specs.View.{View, leap_of}
use Rattle.mseed_audit.specs.Channels.{is_of_channel}
use Rattle.mseed_audit.specs.Follows.{IsSound}
use Rattle.mseed_audit.specs.Judging.{step_in}
use Rattle.mseed_audit.specs.Series.{AreJoined, AreSteps, step_at, steps_from}
use Rattle.mseed_repack.specs.Stretches.{IsFirstStretch}
pub use Rattle.mseed_repack.specs.Stretches.{samples_of}

-- how many leap seconds a record bears: one, or none
abbrev pub step_count : View → ℕ
step_count v = length (step_at 0 (step_in (leap_of v.bytes)))

-- how many leap seconds records bear
abbrev pub steps_of : List View → ℕ
steps_of [] = 0
steps_of (v ∷ vs) = step_count v + steps_of vs

-- the records of the channel with this key
abbrev pub channel_in : List ℕ → List View → List View
channel_in key views = filter (is_of_channel key) views

-- the samples and leap seconds are those of the records
pub record AreOf (vs : List View) (samples : List ℤ) (steps : List (ℕ × LeapStep)) : Type 0 where
  pub samples_are : AreJoined vs samples
  pub steps_are : steps ≡ steps_from 0 vs

-- they are, and so many: each leap second stands at one of the samples
pub record IsRead (m k : ℕ) (samples : List ℤ) (steps : List (ℕ × LeapStep)) (vs : List View) : Type 0 where
  pub are : AreOf vs samples steps
  pub places : AreSteps m steps
  pub size : length samples ≡ m
  pub samples_count : m ≡ samples_of vs
  pub steps_count : k ≡ steps_of vs

-- a walk leads to records, of which each is sound
pub record IsSoundWalk {S : Type 0} (leads : S → Type 0) (left : S → List View) (walk : S) : Type 0 where
  pub led : leads walk
  pub some : left walk ≢ []
  pub sound : AllByRecursion IsSound (left walk)

-- a walk leads to records, each of which is sound, and no more than a loop can count
pub record CanBeCut {S : Type 0} (leads : S → Type 0) (left : S → List View) (walk : S) : Type 0 where
  pub led : leads walk
  pub sound : AllByRecursion IsSound (left walk)
  pub few : length (left walk) ≤ 2 ^ 40

-- the first stretch of the records to which one walk leads has so many, and another walk leads to those after it
pub record IsCutOff {S : Type 0} (leads : S → Type 0) (left : S → List View) (walk : S) (count : ℕ) (after : S) : Type
    0 where
  pub led : leads after
  pub first : IsFirstStretch (left walk) (take count (left walk)) (drop count (left walk))
  pub left_are : left after ≡ drop count (left walk)

-- no more than a loop can count, and there is room for so many leap seconds
pub record CanBeRead {S : Type 0} (leads : S → Type 0) (left : S → List View) (walk : S) (places : ℕ) : Type 0 where
  pub walks : IsSoundWalk leads left walk
  pub few : length (left walk) ≤ 2 ^ 40
  pub steps_fit : steps_of (left walk) ≤ places
