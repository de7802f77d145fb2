-- What is written of the joint part of parts with a line for each border with a finding, and what is answered of it.
use Rattle.std.specs.Prelude.{◌≡◌, ◌⊎◌, ℕ, ◌+◌, List, ◌++◌, Bool, true, Option, Result, Ok, Err}
use Rattle.mseed_stream.specs.Device.{BytesRead, BytesWritten}
use Rattle.mseed_stream.specs.Gathered.{EmittedFirst, EmittedPart}
use Rattle.mseed_audit.specs.Summary.{IsWritten}
use Rattle.mseed_join.specs.declared.joining.Joined.{Joined as Answer}
use Rattle.mseed_join.specs.declared.fault.JoinFault.{JoinFault}
use Rattle.mseed_join.specs.declared.fault.JoinFault.TheVariants.{Line, Count, Stream, Write, Memory}
use Rattle.mseed_join.specs.declared.flaw.Flaw.{Flaw}
use Rattle.mseed_join.specs.Borders.{AreBordersOf, Border, border_lines}
use Rattle.mseed_join.specs.Joined.{HasNoBadLine, join_text}
use Rattle.mseed_join.specs.Joins.{IsAnswer}
use Rattle.mseed_join.specs.Reached.{Stage, parts_at}
use Rattle.mseed_join.specs.ReadParts.{AreBadParts, AreMiscounted, AreReportedTo, IsRead, IsReadFault}
use Rattle.mseed_join.specs.Written.{Written}

-- the whole input was read, and this is found at the borders of its parts
pub record IsReadEach (past : Bool) (expected : Option ℕ) (h : BytesRead) (w : Written) (found : List Border)
    (reported now : BytesWritten) : Type 0 where
  pub read : IsRead past expected h w reported now
  pub borders : AreBordersOf past read.parts.parts found

-- the lines of the borders, and then the text of the audit
abbrev pub each_text : List Border → Written → List ℕ
each_text found w = border_lines found ++ join_text w

-- the first bad line, what is wrong with it, and what is found at the borders of the lines before it
pub record AreBadEach (past : Bool) (h : BytesRead) (k offset : ℕ) (flaw : Flaw) (found : List Border)
    (reported now : BytesWritten) : Type 0 where
  pub bad : AreBadParts past h.bytes h.is_at_end k offset flaw reported now
  pub borders : AreBordersOf past (parts_at bad.stage) found

-- the whole input was read: it is `parts` parts, where another number is expected, and this is found at their borders
pub record AreMiscountedEach (past : Bool) (expected : Option ℕ) (h : BytesRead) (parts due : ℕ) (found : List Border)
    (reported now : BytesWritten) : Type 0 where
  pub whole : h.is_at_end ≡ true
  pub miscounted : AreMiscounted past expected h.bytes parts due reported now
  pub borders : AreBordersOf past miscounted.read.parts found

-- so far was read, and this is found at the borders of those lines
pub record AreEachTo (past : Bool) (h : BytesRead) (found : List Border) (reported now : BytesWritten) : Type 0 where
  pub stage : Stage
  pub lines : AreReportedTo past h.bytes stage reported now
  pub borders : AreBordersOf past (parts_at stage) found

-- what was written is so of a text: the lines of the borders so far, or the whole
abbrev pub EndsShort : (List ℕ → Type 0) → Bool → Option ℕ → BytesRead → BytesWritten → BytesWritten → Type 0
EndsShort Emitted past expected h reported now =
    ((found : List Border) × (AreEachTo past h found reported now × Emitted (border_lines found)))
    ⊎ ((w : Written)
    × ((found : List Border) × (IsReadEach past expected h w found reported now × Emitted (each_text found w))))

-- By the outcome: of the input, of the output before and after, and of the device that faults are reported to before
-- and after. An output that failed isn't called again.
abbrev pub IsJoinEachOutcome : Bool → Option ℕ → Result Answer JoinFault → BytesRead → BytesWritten → BytesWritten
    → BytesWritten → BytesWritten → Type 0
IsJoinEachOutcome past expected (Ok answer) h old new reported now =
    (w : Written) × ((found : List Border) × (IsReadEach past expected h w found reported now
    × IsAnswer answer w × IsWritten (each_text found w) old new))
IsJoinEachOutcome past expected (Err (Line k offset flaw)) h old new reported now =
    (found : List Border)
    × (AreBadEach past h k offset flaw found reported now × IsWritten (border_lines found) old new)
IsJoinEachOutcome past expected (Err (Count parts due)) h old new reported now =
    (found : List Border) × (AreMiscountedEach past expected h parts due found reported now
    × IsWritten (border_lines found) old new)
IsJoinEachOutcome past expected (Err (Stream fault)) h old new reported now =
    (found : List Border) × (AreEachTo past h found reported now × IsWritten (border_lines found) old new
    × IsReadFault fault h × HasNoBadLine past h.bytes)
IsJoinEachOutcome past expected (Err Write) h old new reported now =
    (new.failures ≡ old.failures + 1) × EndsShort (EmittedPart old new) past expected h reported now
IsJoinEachOutcome past expected (Err Memory) h old new reported now =
    (new.failures ≡ old.failures) × EndsShort (EmittedFirst old new) past expected h reported now
