-- A joint part, by the lines of parts that were taken: no public contract is stated by these words.
use Rattle.std.specs.Prelude.{⊤, ◌≡◌, ◌<◌, ℕ, List, [], ◌∷◌, ◌++◌, length, Bool, true, false, Option, Some, None}
use Rattle.std.specs.Prelude.{IfErr, Result, Ok, Err}
use Rattle.std.specs.Ordering.{nat_cmp}
use Rattle.std.specs.Cmp.Lexicographic.{slice_cmp}
use Rattle.std.specs.declared.cmp.Ordering.TheVariants.{Less}
use Rattle.mseed_stream.specs.declared.fault.StreamFault.{StreamFault}
use Rattle.mseed_stream.specs.declared.fault.StreamFault.TheVariants.{Frame, Truncated, Read, Turns, Memory}
use Rattle.mseed_audit.specs.declared.channel.Channel.{Channel}
use Rattle.mseed_join.specs.Lines.{IsLine, Line, text_of_line}
use Rattle.mseed_join.specs.declared.joint.Joint.{Joint}
use Rattle.mseed_join.specs.declared.joint.LineFault.{LineFault}
use Rattle.mseed_join.specs.declared.joint.LineFault.TheVariants.{Bad, Memory as NoMemory}
use Rattle.mseed_join.specs.declared.joint.PlaceInPart.{PlaceInPart}
use Rattle.mseed_join.specs.declared.joint.PlaceInPart.TheVariants.{Start, Channels, Whole}
use Rattle.mseed_join.specs.declared.joint.Reported.{Reported}
use Rattle.mseed_join.specs.declared.joint.Reported.TheVariants.{Nothing, Border as AtBorder, Passed}
use Rattle.mseed_join.specs.Borders.{AreBordersOf, Border}
use Rattle.mseed_join.specs.declared.flaw.Flaw.TheVariants.{Limit}
use Rattle.mseed_join.specs.Flaws.{IsFlawOf, May}
use Rattle.mseed_join.specs.Joined.{Begins, IsJointOf}
use Rattle.mseed_join.specs.Reached.{OpenPart, none, begun, whole, Stage, parts_at, IsStage, passed_line, passed_lines}
use Rattle.mseed_join.specs.ReadParts.{written_of}
use Rattle.mseed_join.specs.private.Steps.{to}

-- the key of the last of these channels, if there is one
abbrev pub IsLastKey : Option (List ℕ) → List (List ℕ × Channel) → Type 0
IsLastKey None channels = channels ≡ []
IsLastKey (Some key) channels =
    (before : List (List ℕ × Channel)) × (c : Channel) × (channels ≡ before ++ (key, c) ∷ [])

-- a key is after that of the last channel
abbrev pub IsAfterKey : Option (List ℕ) → List ℕ → Type 0
IsAfterKey None key = ⊤
IsAfterKey (Some last) key = slice_cmp nat_cmp last key ≡ Less

-- whether the number of faults passed was read
abbrev pub IsRead : Bool → ℕ → Type 0
IsRead false n = n ≡ 0
IsRead true n = 0 < n

abbrev pub IsPlace : PlaceInPart → OpenPart → Type 0
IsPlace Start none = ⊤
IsPlace Start (begun channels) = ⊥
IsPlace Start (whole w) = ⊥
IsPlace (Channels last) none = ⊥
IsPlace (Channels last) (begun channels) = IsLastKey last channels
IsPlace (Channels last) (whole w) = ⊥
IsPlace (Whole bytes has_faults) none = ⊥
IsPlace (Whole bytes has_faults) (begun channels) = ⊥
IsPlace (Whole bytes has_faults) (whole w) = (bytes ≡ w.part.bytes) × IsRead has_faults w.faults

-- these lines were taken, and so far are the parts
pub record IsReadTo {A : Type 0} (lines : List ℕ) (s : Stage) (j : Joint A) : Type 0 where
  pub stage : IsStage lines s
  pub joint : IsJointOf j.past_faults (parts_at s) (written_of j.so_far)
  pub place : IsPlace j.place s.last
  pub number : j.parts ≡ length (parts_at s)

-- ---- what is reported of a line
abbrev pub passed_by : Reported → List (List ℕ)
passed_by Nothing = []
passed_by (AtBorder key start found) = []
passed_by (Passed number fault) = passed_line number fault ∷ []

abbrev pub border_by : Reported → List Border
border_by Nothing = []
border_by (AtBorder key start found) = record { key = key; start = start; finding = found } ∷ []
border_by (Passed number fault) = []

-- of the parts so far it is what one more line adds
pub record IsReportedMore (past : Bool) (s t : Stage) (reported : Reported) : Type 0 where
  pub passed : passed_lines past (parts_at t) ≡ passed_lines past (parts_at s) ++ passed_by reported
  pub borders : (found : List Border) → AreBordersOf past (parts_at s) found
      → AreBordersOf past (parts_at t) (found ++ border_by reported)

-- ---- one more line
pub record IsTaken {A : Type 0} (lines line : List ℕ) (s t : Stage) (report : Reported) (old new : Joint A) : Type 0
  where
    pub read : IsReadTo (lines ++ line) t new
    pub reported : IsReportedMore old.past_faults s t report
    pub past_faults : new.past_faults ≡ old.past_faults
    pub parts : new.parts ≡ length (parts_at t)

-- this line, which can stand there
abbrev pub IsStep : {A : Type 0} → List ℕ → Stage → Line → Result Reported LineFault → Joint A → Joint A → Type 0
IsStep lines s x (Ok reported) old new = IsTaken lines (text_of_line x) s (to s x) reported old new
IsStep lines s x (Err (Bad flaw)) old new = Begins old.past_faults (lines ++ text_of_line x) → ⊥
IsStep lines s x (Err NoMemory) old new = ⊤

abbrev pub Takes : {A : Type 0} → Line → Result Reported LineFault → Joint A → Joint A → Type 0
Takes x result old new =
    (lines : List ℕ) (s : Stage) → IsReadTo lines s old → IsLine x → May s.last x → IsStep lines s x result old new

-- any line
abbrev pub IsLineStep : {A : Type 0} → List ℕ → Stage → List ℕ → Result Reported LineFault → Joint A → Joint A → Type 0
IsLineStep lines s line (Ok reported) old new = (t : Stage) × IsTaken lines line s t reported old new
IsLineStep lines s line (Err (Bad flaw)) old new = Begins old.past_faults (lines ++ line) → ⊥
IsLineStep lines s line (Err NoMemory) old new = ⊤

-- why a line wasn't taken that can stand there
abbrev pub IsLimit : LineFault → Type 0
IsLimit (Bad flaw) = flaw ≡ Limit
IsLimit NoMemory = ⊤

-- why a line wasn't taken, by what stands before it
abbrev pub IsFlawed : LineFault → OpenPart → List ℕ → Type 0
IsFlawed (Bad flaw) last line = IsFlawOf flaw last line
IsFlawed NoMemory last line = ⊤

-- it is taken, or no parts go on with it, and why
abbrev pub TakesLine : {A : Type 0} → List ℕ → Result Reported LineFault → Joint A → Joint A → Type 0
TakesLine line result old new =
    (lines : List ℕ) (s : Stage) → IsReadTo lines s old
    → IsLineStep lines s line result old new × IfErr result (λ e. IsFlawed e s.last line)

-- a fault after so many bytes
abbrev pub fault_after : ℕ → StreamFault → StreamFault
fault_after e (Frame offset f) = Frame e f
fault_after e (Truncated offset have) = Truncated e have
fault_after e (Read offset) = Read e
fault_after e (Turns offset) = Turns e
fault_after e Memory = Memory
