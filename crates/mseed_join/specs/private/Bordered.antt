-- Reading parts with a report of their borders, and the lines of borders: no public contract is stated by these words.
use Rattle.std.specs.Prelude.{⊤, ◌≡◌, ◌⊎◌, ℕ, ◌+◌, List, Bool, Option, Result, Ok, Err}
use Rattle.mseed_stream.specs.Device.{BytesRead, BytesWritten}
use Rattle.mseed_stream.specs.Gathered.{AreGathered, EmittedFirst, EmittedPart}
use Rattle.mseed_audit.specs.Summary.{IsWritten}
use Rattle.mseed_join.specs.declared.fault.JoinFault.{JoinFault}
use Rattle.mseed_join.specs.declared.fault.JoinFault.TheVariants.{Line, Count, Stream, Write, Memory}
use Rattle.mseed_join.specs.declared.joint.JointPart.{JointPart}
use Rattle.mseed_join.specs.Borders.{Border, border_lines}
use Rattle.mseed_join.specs.Joined.{HasNoBadLine}
use Rattle.mseed_join.specs.JoinsEach.{AreBadEach, AreEachTo, AreMiscountedEach, IsReadEach}
use Rattle.mseed_join.specs.ReadParts.{IsReadFault, written_of}

-- ---- any report
-- by the fault with which the parts end, after these borders
abbrev pub IsEndedBy : JoinFault → Bool → Option ℕ → BytesRead → List Border → BytesWritten → BytesWritten → Type 0
IsEndedBy (Line k offset flaw) past expected h found first at = AreBadEach past h k offset flaw found first at
IsEndedBy (Count n due) past expected h found first at = AreMiscountedEach past expected h n due found first at
IsEndedBy (Stream f) past expected h found first at = IsReadFault f h × HasNoBadLine past h.bytes
IsEndedBy Write past expected h found first at = ⊥
IsEndedBy Memory past expected h found first at = ⊤

-- reading ended so after these borders: the report failed, or the parts end with a fault, at which the report stops
pub record IsUnread (fault : JoinFault) (past : Bool) (expected : Option ℕ) (h : BytesRead)
    (first at : BytesWritten) (Cuts : List Border → JoinFault → Type 0) (Stops : List Border → JoinFault → JoinFault
    → Type 0)
    : Type 0 where
  pub found : List Border
  pub to : AreEachTo past h found first at
  pub by : Cuts found fault
      ⊎ ((ended : JoinFault) × (IsEndedBy ended past expected h found first at × Stops found ended fault))

-- by the outcome: all parts were read, or not
abbrev pub IsReading : {A : Type 0} → Result (JointPart A) JoinFault → Bool → Option ℕ → BytesRead → BytesWritten
    → BytesWritten → (List Border → Type 0) → (List Border → JoinFault → Type 0) → (List Border → JoinFault
    → JoinFault → Type 0)
    → Type 0
IsReading (Ok joint) past expected h first at Stands Cuts Stops =
    (found : List Border) × (IsReadEach past expected h (written_of joint) found first at × Stands found)
IsReading (Err fault) past expected h first at Stands Cuts Stops = IsUnread fault past expected h first at Cuts Stops

-- ---- a report of lines
-- the lines were written or are gathered in a text
pub record AreLined (first now : BytesWritten) (text : List ℕ) (found : List Border) : Type 0 where
  pub lines : AreGathered first now text (border_lines found)
  pub fine : now.failures ≡ first.failures

-- a prefix of a text was written before the fault
abbrev pub IsCutShort : BytesWritten → BytesWritten → List ℕ → JoinFault → Type 0
IsCutShort first now text (Line k offset flaw) = ⊥
IsCutShort first now text (Count parts due) = ⊥
IsCutShort first now text (Stream fault) = ⊥
IsCutShort first now text Write = (now.failures ≡ first.failures + 1) × EmittedPart first now text
IsCutShort first now text Memory = (now.failures ≡ first.failures) × EmittedFirst first now text

-- the lines were written before a fault, which is the output's where the output failed
abbrev pub IsFlushed : BytesWritten → BytesWritten → List Border → JoinFault → JoinFault → Type 0
IsFlushed first now found ended fault =
    (IsWritten (border_lines found) first now × (fault ≡ ended))
    ⊎ (IsCutShort first now (border_lines found) Write × (fault ≡ Write))
