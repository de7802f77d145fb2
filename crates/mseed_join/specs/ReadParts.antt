-- What reading parts one after another answers.
use Rattle.std.specs.Prelude.{⊤, ◌≡◌, ◌≢◌, ℕ, ◌+◌, List, length, Bool, true, Option, Some, None, Result, Ok, Err}
use Rattle.mseed_stream.specs.Device.{BytesRead, BytesWritten, nothing_read}
use Rattle.mseed_stream.specs.Fault.{IsStreamFault}
use Rattle.mseed_stream.specs.declared.fault.StreamFault.{StreamFault}
use Rattle.mseed_stream.specs.declared.fault.StreamFault.TheVariants.{Memory as NoMemory}
use Rattle.mseed_join.specs.declared.joint.JointPart.{JointPart}
use Rattle.mseed_join.specs.declared.fault.JoinFault.{JoinFault}
use Rattle.mseed_join.specs.declared.fault.JoinFault.TheVariants.{Line, Count, Stream, Write, Memory}
use Rattle.mseed_join.specs.declared.flaw.Flaw.{Flaw}
use Rattle.mseed_join.specs.Flaws.{IsFlaw}
use Rattle.mseed_join.specs.Joined.{HasNoBadLine, IsBadLine, IsJointOf}
use Rattle.mseed_join.specs.Reached.{AreLinesRead, AreReported, Stage, parts_at, passed_lines}
use Rattle.mseed_join.specs.Written.{Written, Spells}

-- a joint part, as what its text says
abbrev pub written_of : {A : Type 0} → JointPart A → Written
written_of j = record { part = j.part; faults = j.faults; end = j.end }

-- the bytes are the texts of parts, and this is their joint part; each fault that was passed was reported
pub record AreReadParts (past : Bool) (bytes : List ℕ) (joint : Written) (old new : BytesWritten) : Type 0 where
  pub parts : List Written
  pub spells : Spells bytes parts
  pub is_joint : IsJointOf past parts joint
  pub reported : AreReported (passed_lines past parts) old new

-- parts are as many as are expected, where a number is
abbrev pub AreExpected : Option ℕ → ℕ → Type 0
AreExpected None parts = ⊤
AreExpected (Some expected) parts = parts ≡ expected

-- the whole input was read: it is the texts of parts, as many as are expected, and this is their joint part; each fault
-- that was passed was reported
pub record IsRead (past : Bool) (expected : Option ℕ) (h : BytesRead) (w : Written) (reported now : BytesWritten)
    : Type 0 where
  pub whole : h.is_at_end ≡ true
  pub parts : AreReadParts past h.bytes w reported now
  pub number : AreExpected expected (length parts.parts)

-- the bytes are the texts of `parts` parts, and another number is expected; each fault that was passed was reported
pub record AreMiscounted (past : Bool) (expected : Option ℕ) (bytes : List ℕ) (parts due : ℕ) (old new : BytesWritten)
    : Type 0 where
  pub joint : Written
  pub read : AreReadParts past bytes joint old new
  pub number : parts ≡ length read.parts
  pub due_is : expected ≡ Some due
  pub differ : parts ≢ due

-- the first bad line, and what is wrong with it; of the lines before it each fault that was passed was reported
pub record AreBadParts (past : Bool) (bytes : List ℕ) (at_end : Bool) (k offset : ℕ) (flaw : Flaw)
    (old new : BytesWritten) : Type 0 where
  pub bad : IsBadLine past bytes at_end k offset
  pub count : ℕ
  pub number : k ≡ count + 1
  pub stage : Stage
  pub before : AreLinesRead bytes count stage
  pub flaw_is : IsFlaw flaw stage.last before.rest at_end
  pub reported : AreReported (passed_lines past (parts_at stage)) old new

-- the whole lines that were read are those of parts up to this stage; each fault that was passed was reported
pub record AreReportedTo (past : Bool) (bytes : List ℕ) (stage : Stage) (old new : BytesWritten) : Type 0 where
  pub count : ℕ
  pub before : AreLinesRead bytes count stage
  pub reported : AreReported (passed_lines past (parts_at stage)) old new

-- so far was read, and no further
pub record IsStopped (past : Bool) (h : BytesRead) (s new : BytesWritten) : Type 0 where
  pub stage : Stage
  pub lines : AreReportedTo past h.bytes stage s new

-- A fault of the input, of which nothing was read before: a read failed, or the input wasn't at its end after 2^40
-- reads. Memory that was refused is no fault of the input.
abbrev pub IsReadFault : StreamFault → BytesRead → Type 0
IsReadFault NoMemory h = ⊥
IsReadFault fault h = IsStreamFault fault nothing_read h

-- the source failed after it: no bad line was read before
pub record IsFailed (past : Bool) (h : BytesRead) (s new : BytesWritten) : Type 0 where
  pub stopped : IsStopped past h s new
  pub none_bad : HasNoBadLine past h.bytes

-- By the answer: of what was read of the source, and of the device that faults are reported to, before and after.
-- Nothing else is written, so no output fails.
abbrev pub IsReadOutcome : {A : Type 0} → Result (JointPart A) JoinFault → Bool → Option ℕ → BytesRead → BytesWritten
    → BytesWritten → Type 0
IsReadOutcome (Ok joint) past expected h s new = IsRead past expected h (written_of joint) s new
IsReadOutcome (Err (Line k offset flaw)) past expected h s new = AreBadParts past h.bytes h.is_at_end k offset flaw s
    new
IsReadOutcome (Err (Count parts due)) past expected h s new =
    (h.is_at_end ≡ true) × AreMiscounted past expected h.bytes parts due s new
IsReadOutcome (Err (Stream fault)) past expected h s new = IsReadFault fault h × IsFailed past h s new
IsReadOutcome (Err Write) past expected h s new = ⊥
IsReadOutcome (Err Memory) past expected h s new = IsStopped past h s new
