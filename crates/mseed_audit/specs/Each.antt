-- What an audit writes that reports each record with a finding, and what it answers.
use Rattle.std.specs.Prelude.{◌≡◌, ◌⊎◌, ℕ, ◌+◌, List, [], ◌++◌, Option, Result, Ok, Err}
use Rattle.mseed_record.specs.View.{View}
use Rattle.mseed_stream.specs.Device.{BytesRead, BytesWritten}
use Rattle.mseed_stream.specs.Walk.{AreViews}
use Rattle.mseed_stream.specs.declared.fault.StreamFault.{StreamFault}
use Rattle.mseed_stream.specs.Gathered.{AreGathered, EmittedFirst, EmittedPart}
use Rattle.mseed_audit.specs.declared.summary.Gathered.{Gathered}
use Rattle.mseed_audit.specs.declared.summary.Summary.{Summary}
use Rattle.mseed_audit.specs.declared.each.EachFault.{EachFault}
use Rattle.mseed_audit.specs.declared.each.EachFault.TheVariants.{Write, Memory}
use Rattle.mseed_audit.specs.Audit.{Held}
use Rattle.mseed_audit.specs.Scope.{Scope, whole}
use Rattle.mseed_audit.specs.Summary.{AuditedIn, IsGatheredIn, IsSummaryIn, IsWritten, text_in, text_of}
use Rattle.mseed_audit.specs.Text.{reported_lines}
use Rattle.mseed_audit.specs.Reported.{Reported, AreReported}

-- what was read is audited so, and this is reported of its judged records
pub record AuditedEachIn (scope : Scope) (h : BytesRead) : Type 0 where
  pub audited : AuditedIn scope h
  pub reported : List Reported
  pub are_reported : AreReported [] (scope.judged audited.views) reported

abbrev pub AuditedEach : BytesRead → Type 0
AuditedEach h = AuditedEachIn whole h

-- the lines of the records with a finding, and then the text of the audit
abbrev pub each_text_in : (scope : Scope) → {h : BytesRead} → AuditedEachIn scope h → List ℕ
each_text_in scope a = reported_lines a.reported ++ text_in scope a.audited

abbrev pub each_text : {h : BytesRead} → AuditedEach h → List ℕ
each_text a = reported_lines a.reported ++ text_of a.audited

-- what was written is so of the lines of the first records
pub record EndsInLinesIn (scope : Scope) (Emitted : List ℕ → Type 0) (h : BytesRead) : Type 0 where
  pub offset : ℕ
  pub views : List View
  pub reported : List Reported
  pub shown : AreViews h.bytes offset views
  pub are_reported : AreReported [] (scope.judged views) reported
  pub prefix : Emitted (reported_lines reported)

-- or of the whole text
abbrev pub EndsShortIn : Scope → (List ℕ → Type 0) → BytesRead → Type 0
EndsShortIn scope Emitted h =
    EndsInLinesIn scope Emitted h ⊎ ((a : AuditedEachIn scope h) × Emitted (each_text_in scope a))

-- By the outcome. An output that failed isn't called again.
abbrev pub IsEachOutcomeIn : Scope → Result Summary EachFault → BytesRead → BytesWritten → BytesWritten → Type 0
IsEachOutcomeIn scope (Ok summary) h old new =
    (a : AuditedEachIn scope h) × (IsSummaryIn scope summary a.audited × IsWritten (each_text_in scope a) old new)
IsEachOutcomeIn scope (Err Write) h old new =
    (new.failures ≡ old.failures + 1) × EndsShortIn scope (EmittedPart old new) h
IsEachOutcomeIn scope (Err Memory) h old new =
    (new.failures ≡ old.failures) × EndsShortIn scope (EmittedFirst old new) h

abbrev pub IsEachOutcome : Result Summary EachFault → BytesRead → BytesWritten → BytesWritten → Type 0
IsEachOutcome result h old new = IsEachOutcomeIn whole result h old new

-- ---- the lines, as records are added
-- all records up to the end came, and the lines of those with a finding were written or are gathered
pub record HasLinesIn (scope : Scope) (held : Held) (end : Option StreamFault) (bytes : ℕ) (h : BytesRead)
    (old new : BytesWritten) (text : List ℕ) : Type 0 where
  pub views : List View
  pub reported : List Reported
  pub all : IsGatheredIn scope held end bytes h views
  pub are_reported : AreReported [] (scope.judged views) reported
  pub lines : AreGathered old new text (reported_lines reported)
  pub fine : new.failures ≡ old.failures

-- By the fault: an output that failed isn't called again.
abbrev pub IsLinesFaultIn : Scope → EachFault → BytesRead → BytesWritten → BytesWritten → Type 0
IsLinesFaultIn scope Write h old new =
    (new.failures ≡ old.failures + 1) × EndsInLinesIn scope (EmittedPart old new) h
IsLinesFaultIn scope Memory h old new =
    (new.failures ≡ old.failures) × EndsInLinesIn scope (EmittedFirst old new) h

-- by the outcome: what the records come to; the last lines are left in a text
abbrev pub IsReporting : {A : Type 0} → Result (Gathered A) EachFault → BytesRead → BytesWritten → BytesWritten
    → List ℕ → Type 0
IsReporting (Ok found) h old new text = HasLinesIn whole found.audit found.end found.bytes h old new text
IsReporting (Err fault) h old new text = IsLinesFaultIn whole fault h old new
