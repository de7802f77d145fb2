-- What records say that a series is packed into.
use Rattle.std.specs.Prelude.{⊤, ◌≡◌, ◌≢◌, ℕ, ◌+◌, nat_le, nat_lt, ℤ, Bool, ◌&&◌, List, [], ◌∷◌, ◌++◌, length, map}
use Rattle.std.specs.Prelude.{IsTrue, Result, Ok, Err}
use Rattle.std.specs.List.{AllByRecursion, filter, flat_map}
use Rattle.mseed_time.specs.declared.outcome.LeapStep.{LeapStep}
use Rattle.mseed_record.specs.View.{View, IsView}
use Rattle.mseed_audit.specs.declared.assembly.NotContinuous.{NotContinuous}
use Rattle.mseed_audit.specs.declared.assembly.NotContinuous.TheVariants.{Absent, Broken, Memory}
use Rattle.mseed_audit.specs.Channels.{added_from, is_of_channel, records_of, views_in}
use Rattle.mseed_audit.specs.Follows.{IsContinuous}
use Rattle.mseed_audit.specs.Series.{Trace, AreJoined, IsSeriesOf}
use Rattle.mseed_pack.specs.Clock.{instant_at}
use Rattle.mseed_pack.specs.Fitting.{Fits}
use Rattle.mseed_pack.specs.Packing.{IsPacking}
use Rattle.mseed_pack.specs.declared.options.Options.{Options}

-- these are views of these records, in their order
pub record AreViewsOf (records : List (List ℕ)) (views : List View) : Type 0 where
  pub bytes : map (λ (v : View). v.bytes) views ≡ records
  pub each : AllByRecursion IsView views

-- All of the bytes are records, each of which has one view: a record with samples, of the series' channel. The channel
-- is continuous, and its series is this one.
pub record ReadsAs (s : Trace) (records : List (List ℕ)) : Type 0 where
  pub views : List View
  pub are_views : AreViewsOf records views
  pub only : (others : List View) → AreViewsOf records others → others ≡ views
  pub channel : AllByRecursion (λ (v : View). IsTrue (is_of_channel s.codes v)) views
  pub continuous : IsContinuous views
  pub series : IsSeriesOf s views

-- whatever records a series is packed into, where it fits, read back as the series
abbrev pub EachReadsBack : Trace → Options → Type 0
EachReadsBack s o = (records : List (List ℕ)) → Fits s o → IsPacking s o records → ReadsAs s records

-- a series, and the records that it is packed into
pub record Packed : Type 0 where
  pub series : Trace
  pub records : List (List ℕ)

-- the records of all, one series' after another's
abbrev pub records_of_all : List Packed → List (List ℕ)
records_of_all packed = flat_map (λ (p : Packed). p.records) packed

-- no two are of one channel
abbrev pub AreApart : List Packed → Type 0
AreApart [] = ⊤
AreApart (p ∷ ps) = AllByRecursion (λ (q : Packed). q.series.codes ≢ p.series.codes) ps × AreApart ps

-- the records of the series' channel, among all of an archive, are those that it is packed into
abbrev pub StandsIn : List View → Packed → Type 0
StandsIn views p = AreViewsOf p.records (views_in (records_of p.series.codes (added_from 0 views)))

-- the samples of these records, joined
abbrev pub HaveSamples : List (List ℕ) → List ℤ → Type 0
HaveSamples records samples = (views : List View) × AreViewsOf records views × AreJoined views samples

-- A series is the part of another one that some of its records have, where these stand before and after them.
pub record IsPartOf (s : Trace) (before after : List (List ℕ)) (part : Trace) : Type 0 where
  pub older : List ℤ
  pub later : List ℤ
  pub samples : s.samples ≡ older ++ (part.samples ++ later)
  pub before_it : HaveSamples before older
  pub after_it : HaveSamples after later
  pub codes : part.codes ≡ s.codes

-- the leap second stands after more than `place` samples, and not more than `end`
abbrev pub is_among : ℕ → ℕ → ℕ × LeapStep → Bool
is_among place end step = nat_lt place step.0 && nat_le step.0 end

-- a leap second, with `place` more samples before it
abbrev pub moved : ℕ → ℕ × LeapStep → ℕ × LeapStep
moved place step = (place + step.0, step.1)

-- A part of a series that has `place` samples before it begins at the instant of its first one, at the series' rate,
-- and its leap seconds are the series' own that stand after one of its samples: their places are counted from its
-- first.
pub record IsTimedFrom (s : Trace) (place : ℕ) (part : Trace) : Type 0 where
  pub start : part.start ≡ instant_at s place
  pub factor : part.rate.factor ≡ s.rate.factor
  pub multiplier : part.rate.multiplier ≡ s.rate.multiplier
  pub steps : map (moved place) part.steps ≡ filter (is_among place (place + length part.samples)) s.steps

-- the series of these records, or there was no memory for it
abbrev pub IsAssembled : Result Trace NotContinuous → List View → Type 0
IsAssembled (Ok s) views = IsContinuous views × IsSeriesOf s views
IsAssembled (Err Absent) views = ⊥
IsAssembled (Err (Broken first)) views = ⊥
IsAssembled (Err Memory) views = ⊤
