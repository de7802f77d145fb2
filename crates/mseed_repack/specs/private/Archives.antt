-- An archive, its channels, and where the records of each stand.
use Rattle.std.specs.Prelude.{◌≡◌, ℕ, ◌<◌, ◌≤◌, ◌^◌, Bool, true, false, Option, Some, None, List, length, map, drop}
use Rattle.std.specs.Prelude.{slice_index_or}
use Rattle.std.specs.List.{AllByRecursion}
use Rattle.mseed_record.specs.View.{View}
use Rattle.mseed_record.specs.Viewing.{view_of}
use Rattle.mseed_steim.specs.Reading.{count_of}
use Rattle.mseed_audit.specs.Channels.{added_from}
use Rattle.mseed_audit.specs.Verdict.{AreVerdicts}
use Rattle.mseed_audit.specs.declared.finding.Why.{Why}
use Rattle.mseed_audit.specs.declared.finding.Why.TheVariants.{Time, Rate, Read, RateChange, Leap, Gap, Overlap}
use Rattle.mseed_audit.specs.declared.verdict.Verdict.{Verdict}
use Rattle.mseed_audit.specs.declared.verdict.Verdict.TheVariants.{Continuous, Broken}
use Rattle.mseed_repack.specs.private.Reading.{channel_in, steps_of}
use Rattle.mseed_repack.specs.private.Links.{AreLinked, AreNexts, IsOfAt}
use Rattle.mseed_repack.specs.Repack.{Channel, records_in}
use Rattle.mseed_repack.specs.declared.archive.Archive.{Archive}
use Rattle.mseed_repack.specs.declared.archive.ChannelWalk.{ChannelWalk}

-- whether what is found of a record is its own, and not of its border with the record before
abbrev pub is_own : Option Why → Bool
is_own None = false
is_own (Some (Time fault)) = true
is_own (Some Rate) = true
is_own (Some (Read fault)) = true
is_own (Some RateChange) = false
is_own (Some Leap) = false
is_own (Some (Gap us)) = false
is_own (Some (Overlap us)) = false

-- such is each record with samples
abbrev pub AreAlone : (View → Type 0) → List View → Type 0
AreAlone Such vs = AllByRecursion (λ v. 0 < count_of v → Such v) vs

-- the verdict says that the channel is continuous, and has so many samples
abbrev pub SaysCount : ℕ → Verdict → Type 0
SaysCount count (Continuous start rate records samples) = count ≡ samples
SaysCount count (Broken first findings) = ⊥

-- the channels and the verdicts on them are those of the records, and the links are laid
pub record IsAudited (a : Archive) : Type 0 where
  pub few : length a.views.now ≤ 2 ^ 40
  pub verdicts : AreVerdicts (added_from 0 (map view_of a.views.now)) a.channels.now
  pub laid : AreLinked a.views.now a.channels.now a.firsts.now a.nexts.now

-- the records of a channel from an index on
abbrev pub records_on : ChannelWalk → List View
records_on t = channel_in t.codes.now (map view_of (drop t.index t.views.now))

-- the record at the index is of the channel, and the next ones stand after it
pub record IsLed (t : ChannelWalk) : Type 0 where
  pub of : IsOfAt t.codes.now t.views.now t.index
  pub nexts_are : AreNexts t.codes.now t.views.now t.index t.nexts.now
  pub nexts_count : length t.nexts.now ≡ length t.views.now

-- the records are those of the archive's channel with this number
pub record IsWalkOf (a : Archive) (number : ℕ) (t : ChannelWalk) : Type 0 where
  pub channel : Channel
  pub at : channel ≡ slice_index_or a.channels.now number channel
  pub codes_are : t.codes.now ≡ channel.0
  pub led : IsLed t
  pub records_are : records_on t ≡ records_in (map view_of a.views.now) channel.0

-- there is room for so many leap seconds
pub record HasRoomForSteps (a : Archive) (places : ℕ) : Type 0 where
  pub audited : IsAudited a
  pub steps_fit : steps_of (map view_of a.views.now) ≤ places
