-- The series of a channel.
use Rattle.std.specs.Prelude.{⊤, ◌≡◌, ◌<◌, ◌≤◌, ◌+◌, ℕ, ℤ, List, [], ◌∷◌, ◌++◌, length, Option, Some, None, Result, Ok}
use Rattle.std.specs.Prelude.{Err}
use Rattle.mseed_time.specs.declared.outcome.LeapStep.{LeapStep}
use Rattle.mseed_time.specs.declared.rate.Rate.{Rate}
use Rattle.mseed_record.specs.Header.{key_at, factor_at, multiplier_at}
use Rattle.mseed_record.specs.View.{View, start_of, leap_of}
use Rattle.mseed_steim.specs.Reading.{count_of, IsWhole}
use Rattle.mseed_audit.specs.declared.assembly.NotContinuous.{NotContinuous}
use Rattle.mseed_audit.specs.declared.assembly.NotContinuous.TheVariants.{Absent, Broken, Memory}
use Rattle.mseed_audit.specs.declared.finding.Finding.{Finding}
use Rattle.mseed_audit.specs.Channels.{Placed, views_in}
use Rattle.mseed_audit.specs.Follows.{IsContinuous}
use Rattle.mseed_audit.specs.Judging.{step_in}
use Rattle.mseed_audit.specs.Verdict.{AreFindings}

-- what contracts see of a series: the channel's key, the instant of the first sample, the sample rate, the samples,
-- and the leap seconds, each with the number of samples before it
pub record Trace : Type 0 where
  pub codes : List ℕ
  pub start : ℤ
  pub rate : Rate
  pub samples : List ℤ
  pub steps : List (ℕ × LeapStep)

-- each leap second stands after another, and at most `size` samples are before it
abbrev pub AreStepsFrom : ℕ → ℕ → List (ℕ × LeapStep) → Type 0
AreStepsFrom place size [] = ⊤
AreStepsFrom place size (s ∷ ss) = (place < s.0) × (s.0 ≤ size) × AreStepsFrom s.0 size ss

-- the leap seconds of `size` samples: their places are in 1..=size, and rise strictly
abbrev pub AreSteps : ℕ → List (ℕ × LeapStep) → Type 0
AreSteps size steps = AreStepsFrom 0 size steps

-- the leap second at an index is the first that isn't one of them
pub record IsBadStep (size : ℕ) (steps : List (ℕ × LeapStep)) (index : ℕ) : Type 0 where
  pub prefix : List (ℕ × LeapStep)
  pub bad : ℕ × LeapStep
  pub back : List (ℕ × LeapStep)
  pub parts : steps ≡ prefix ++ bad ∷ back
  pub index_is : index ≡ length prefix
  pub good : AreSteps size prefix
  pub not_good : ¬ (AreSteps size (prefix ++ bad ∷ []))

-- the samples of records, joined: of each its reading
pub data AreJoined : List View → List ℤ → Type 0 where
  none : AreJoined [] []
  one : (v : View) (vs : List View) (samples rest : List ℤ) → IsWhole v samples → AreJoined vs rest
      → AreJoined (v ∷ vs) (samples ++ rest)

abbrev pub step_at : ℕ → Option LeapStep → List (ℕ × LeapStep)
step_at place None = []
step_at place (Some step) = (place, step) ∷ []

-- the leap seconds of records that begin with `place` samples before them: each stands just past the last sample of
-- the record that carries it
abbrev pub steps_from : ℕ → List View → List (ℕ × LeapStep)
steps_from place [] = []
steps_from place (v ∷ vs) = step_at (place + count_of v) (step_in (leap_of v.bytes)) ++ steps_from (place + count_of v)
    vs

-- a series of this channel, start and rate that holds the samples and leap seconds of these records, and no others
pub record HoldsAll (codes : List ℕ) (start : ℤ) (rate : Rate) (vs : List View) (s : Trace) : Type 0 where
  pub codes_is : s.codes ≡ codes
  pub start_is : s.start ≡ start
  pub rate_is : s.rate ≡ rate
  pub samples : AreJoined vs s.samples
  pub steps : s.steps ≡ steps_from 0 vs

-- the series of a channel's records: the first one's codes, start and rate, and the samples and leap seconds of all
pub record IsSeriesOf (s : Trace) (vs : List View) : Type 0 where
  pub first : View
  pub rest : List View
  pub parts : vs ≡ first ∷ rest
  pub codes : s.codes ≡ key_at first.bytes
  pub start : s.start ≡ start_of first
  pub factor : s.rate.factor ≡ factor_at first.order first.bytes
  pub multiplier : s.rate.multiplier ≡ multiplier_at first.order first.bytes
  pub samples : AreJoined vs s.samples
  pub steps : s.steps ≡ steps_from 0 vs

-- by the answer: the series of a continuous channel, or no memory for it; or that the channel has no records, or its
-- first finding
abbrev pub IsSeries : Result Trace NotContinuous → List Placed → Type 0
IsSeries (Ok s) ps = IsContinuous (views_in ps) × IsSeriesOf s (views_in ps)
IsSeries (Err Absent) ps = ps ≡ []
IsSeries (Err (Broken first)) ps = (¬ (IsContinuous (views_in ps)))
    × ((rest : List Finding) × AreFindings None ps (first ∷ rest))
IsSeries (Err Memory) ps = IsContinuous (views_in ps)
