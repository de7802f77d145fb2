-- Parts that are joined, and what is written of them.
use Rattle.std.specs.Prelude.{⊤, ◌≡◌, ◌≢◌, ◌<◌, ◌^◌, ℕ, ◌+◌, List, [], ◌∷◌, ◌++◌, length, map, Bool}
use Rattle.std.specs.Prelude.{true, false, Option, Some, None}
use Rattle.std.specs.Option.{option_map}
use Rattle.mseed_stream.specs.declared.fault.StreamFault.{StreamFault}
use Rattle.mseed_stream.specs.declared.fault.StreamFault.TheVariants.{Frame, Truncated, Read, Turns, Memory}
use Rattle.mseed_audit.specs.declared.channel.Channel.{Channel}
use Rattle.mseed_audit.specs.declared.verdict.Verdict.{Verdict}
use Rattle.mseed_audit.specs.Audit.{verdict_of}
use Rattle.mseed_text.specs.Fault.{end_line}
use Rattle.mseed_audit.specs.Text.{total_line, verdict_lines}
use Rattle.mseed_join.specs.Parts.{Fits, IsJoint}
use Rattle.mseed_join.specs.Lines.{faults_line}
use Rattle.mseed_join.specs.Written.{Written, Spells}

-- ---- which parts count
abbrev pub counted_by : Bool → Written → Option StreamFault → List Written → List Written
counted_by past w None rest = w ∷ rest
counted_by true w (Some fault) rest = record { part = w.part; faults = w.faults + 1; end = None } ∷ rest
counted_by false w (Some fault) rest = w ∷ []

-- those up to the first that ends with a fault; where faults are passed all, and each fault is one more that was passed
abbrev pub counted : Bool → List Written → List Written
counted past [] = []
counted past (w ∷ ws) = counted_by past w w.end (counted past ws)

-- ---- parts one after another, joined
-- the part of nothing
abbrev pub nothing : Written
nothing = record { part = record { channels = []; records = 0; bytes = 0 }; faults = 0; end = None }

-- a fault, as one of what has `e` more bytes before it
abbrev pub moved_fault : ℕ → StreamFault → StreamFault
moved_fault e (Frame offset f) = Frame (e + offset) f
moved_fault e (Truncated offset have) = Truncated (e + offset) have
moved_fault e (Read offset) = Read (e + offset)
moved_fault e (Turns offset) = Turns (e + offset)
moved_fault e Memory = Memory

-- the joint part of two, where no number passes 2^63 - 1
pub record IsNext (a w b : Written) : Type 0 where
  pub part : IsJoint a.part w.part b.part
  pub fits : Fits a.part w.part
  pub faults : b.faults ≡ a.faults + w.faults
  pub faults_fit : b.faults < 2 ^ 63
  pub end : b.end ≡ option_map (moved_fault a.part.bytes) w.end

pub data AreJoined : Written → List Written → Written → Type 0 where
  none : (a : Written) → AreJoined a [] a
  one : (a w b h : Written) (ws : List Written) → IsNext a w b → AreJoined b ws h → AreJoined a (w ∷ ws) h

-- the joint part of all that count
abbrev pub IsJointOf : Bool → List Written → Written → Type 0
IsJointOf past ws h = AreJoined nothing (counted past ws) h

-- ---- what is written
abbrev pub verdict_at : (List ℕ × Channel) → List ℕ × Verdict
verdict_at e = (e.0, verdict_of e.1)

-- the text of the audit that a part is the part of, with the faults that lie after
abbrev pub join_text : Written → List ℕ
join_text w =
    verdict_lines (map verdict_at w.part.channels) ++ total_line w.part.records (length w.part.channels)
    ++ faults_line w.faults ++ end_line w.end

-- ---- which bytes begin no text
-- with something after them, these bytes are the texts of parts that can be joined
pub record Begins (past : Bool) (bytes : List ℕ) : Type 0 where
  pub rest : List ℕ
  pub parts : List Written
  pub spells : Spells (bytes ++ rest) parts
  pub joint : Written
  pub is_joint : IsJointOf past parts joint

-- no LF is among them
abbrev pub HasNoEnd : List ℕ → Type 0
HasNoEnd [] = ⊤
HasNoEnd (b ∷ bs) = (b ≢ 10) × HasNoEnd bs

-- whole lines, and their number
pub data AreLines : List ℕ → ℕ → Type 0 where
  none : AreLines [] 0
  one : (line rest : List ℕ) (count : ℕ) → HasNoEnd line → AreLines rest count
      → AreLines (line ++ 10 ∷ rest) (count + 1)

-- a line, or the first bytes of one
pub data IsOfOneLine : List ℕ → Type 0 where
  begun : (bytes : List ℕ) → HasNoEnd bytes → IsOfOneLine bytes
  whole : (line : List ℕ) → HasNoEnd line → IsOfOneLine (line ++ 10 ∷ [])

-- The first bad line of what was read, by its number and the offset at which it begins, the length of the lines before
-- it: no text of parts that can be joined goes on so. At the input's end a last line without its LF is bad, and so is
-- the lack of the next line.
pub data IsBadLine (past : Bool) (bytes : List ℕ) (at_end : Bool) : ℕ → ℕ → Type 0 where
  wrong : (lines line rest : List ℕ) (count : ℕ) → bytes ≡ lines ++ line ++ rest → AreLines lines count
      → Begins past lines → IsOfOneLine line → ¬ (Begins past (lines ++ line))
      → IsBadLine past bytes at_end (count + 1) (length lines)
  unended : (lines line : List ℕ) (count : ℕ) → at_end ≡ true → bytes ≡ lines ++ line → AreLines lines count
      → Begins past lines → line ≢ [] → HasNoEnd line → IsBadLine past bytes at_end (count + 1) (length lines)
  lacks : (count : ℕ) → at_end ≡ true → AreLines bytes count → Begins past bytes
      → ((ws : List Written) → Spells bytes ws → ⊥) → IsBadLine past bytes at_end (count + 1) (length bytes)

-- No line of what was read is bad: it is whole lines with which parts that can be joined begin, and the first bytes of
-- a line that isn't too long, which has no end yet.
pub record HasNoBadLine (past : Bool) (bytes : List ℕ) : Type 0 where
  pub lines : List ℕ
  pub rest : List ℕ
  pub bytes_are : bytes ≡ lines ++ rest
  pub count : ℕ
  pub whole : AreLines lines count
  pub begins : Begins past lines
  pub no_end : HasNoEnd rest
  pub short : length rest < 512
