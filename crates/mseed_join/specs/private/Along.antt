-- How reading parts goes along: no public contract is stated by these words.
use Rattle.std.specs.Prelude.{◌≡◌, ◌≢◌, ◌+◌, ℕ, length, Bool, true, false, Option, Some, None}
use Rattle.std.specs.Prelude.{⊤, Result, Ok, Err}
use Rattle.mseed_stream.specs.Device.{BytesRead}
use Rattle.mseed_join.specs.declared.joint.Joint.{Joint}
use Rattle.mseed_join.specs.declared.joint.JointPart.{JointPart}
use Rattle.mseed_join.specs.declared.joint.PlaceInPart.{PlaceInPart}
use Rattle.mseed_join.specs.declared.joint.PlaceInPart.TheVariants.{Start, Channels, Whole}
use Rattle.mseed_join.specs.declared.joint.Reported.{Reported}
use Rattle.mseed_join.specs.declared.fault.JoinFault.{JoinFault}
use Rattle.mseed_join.specs.declared.fault.JoinFault.TheVariants.{Line as BadLine, Count, Stream, Write, Memory}
use Rattle.mseed_join.specs.declared.reader.Reader.{Reader}
use Rattle.mseed_join.specs.declared.flaw.Flaw.{Flaw}
use Rattle.mseed_join.specs.Flaws.{IsFlaw}
use Rattle.mseed_join.specs.Joined.{HasNoBadLine, IsBadLine, IsJointOf}
use Rattle.mseed_join.specs.Reached.{AreLinesRead, Stage, parts_at}
use Rattle.mseed_join.specs.ReadParts.{AreExpected, IsReadFault, written_of}
use Rattle.mseed_join.specs.Written.{Spells}
use Rattle.mseed_join.specs.private.LineReading.{GoesOn, IsReadBy}
use Rattle.mseed_join.specs.private.Taking.{IsReadTo, IsReportedMore}

-- a part can be over here
abbrev pub can_end : PlaceInPart → Bool
can_end Start = true
can_end (Channels last) = false
can_end (Whole bytes has_faults) = true

-- the lines that were passed are parts up to this stage, whose joint part is kept
pub record IsAlong {A : Type 0} (past : Bool) (now : BytesRead) (s : Stage) (r : Reader A) : Type 0 where
  pub by : IsReadBy now r.lines
  pub read : IsReadTo by.passed s r.joint
  pub past_is : r.joint.past_faults ≡ past
  pub goes_on : GoesOn now

-- no line more was passed, of all that was read
pub record IsStoppedAt (now : BytesRead) (s : Stage) : Type 0 where
  pub count : ℕ
  pub before : AreLinesRead now.bytes count s

-- the input's end: all that was read is the texts of these parts
pub record HasEnded {A : Type 0} (past : Bool) (now : BytesRead) (s : Stage) (j : Joint A) : Type 0 where
  pub stopped : IsStoppedAt now s
  pub at_end : now.is_at_end ≡ true
  pub spells : Spells now.bytes (parts_at s)
  pub joint : IsJointOf past (parts_at s) (written_of j.so_far)
  pub number : j.parts ≡ length (parts_at s)

-- a bad line, after those that were passed
pub record IsBadAfter (past : Bool) (now : BytesRead) (s : Stage) (stopped : IsStoppedAt now s) (k offset : ℕ)
    (flaw : Flaw) : Type 0 where
  pub bad : IsBadLine past now.bytes now.is_at_end k offset
  pub number : k ≡ stopped.count + 1
  pub flaw_is : IsFlaw flaw s.last stopped.before.rest now.is_at_end

-- why no line more was passed: where the source failed, no bad line was read before
abbrev pub IsStoppedBy : JoinFault → Bool → (now : BytesRead) → (s : Stage) → IsStoppedAt now s → Type 0
IsStoppedBy (BadLine k offset flaw) past now s stopped = IsBadAfter past now s stopped k offset flaw
IsStoppedBy (Count parts due) past now s stopped = ⊥
IsStoppedBy (Stream fault) past now s stopped = IsReadFault fault now × HasNoBadLine past now.bytes
IsStoppedBy Write past now s stopped = ⊥
IsStoppedBy Memory past now s stopped = ⊤

-- by what one step answers
abbrev pub IsNextStep : {A : Type 0} → Bool → Stage → Result (Option Reported) JoinFault → BytesRead → Reader A
    → Type 0
IsNextStep past s (Ok (Some reported)) now r = (t : Stage) × (IsAlong past now t r × IsReportedMore past s t reported)
IsNextStep past s (Ok None) now r = HasEnded past now s r.joint
IsNextStep past s (Err fault) now r = (stopped : IsStoppedAt now s) × IsStoppedBy fault past now s stopped

-- All parts are read: the joint part, where they are as many as are expected; or their number, and the one that is
-- expected.
abbrev pub IsFinished : {A : Type 0} → Joint A → Option ℕ → Result (JointPart A) JoinFault → Type 0
IsFinished j expected (Ok joint) = (joint ≡ j.so_far) × AreExpected expected j.parts
IsFinished j expected (Err (Count parts due)) = (parts ≡ j.parts) × (expected ≡ Some due) × (parts ≢ due)
IsFinished j expected (Err (BadLine k offset flaw)) = ⊥
IsFinished j expected (Err (Stream fault)) = ⊥
IsFinished j expected (Err Write) = ⊥
IsFinished j expected (Err Memory) = ⊥
