-- What an audit of a whole input writes and answers.
use Rattle.std.specs.Prelude.{◌≡◌, ◌+◌, ℕ, List, [], ◌∷◌, ◌++◌, length, Option, Result, Ok, Err, is_some}
use Rattle.std.specs.List.{concat}
use Rattle.mseed_record.specs.View.{View}
use Rattle.mseed_stream.specs.Device.{BytesRead, BytesWritten}
use Rattle.mseed_stream.specs.Gathered.{IsCutOff}
use Rattle.mseed_stream.specs.declared.fault.StreamFault.{StreamFault}
use Rattle.mseed_audit.specs.declared.verdict.Verdict.{Verdict}
use Rattle.mseed_audit.specs.declared.verdict.Verdict.TheVariants.{Continuous, Broken}
use Rattle.mseed_audit.specs.declared.summary.Summary.{Summary}
use Rattle.mseed_audit.specs.declared.summary.AuditFault.{AuditFault}
use Rattle.mseed_audit.specs.declared.summary.AuditFault.TheVariants.{Write, Memory}
use Rattle.mseed_stream.specs.Walk.{AreAllViews, bytes_in}
use Rattle.mseed_audit.specs.Channels.{added_from}
use Rattle.mseed_audit.specs.Scope.{Scope, whole}
use Rattle.mseed_audit.specs.Verdict.{AreVerdictsAmong}
use Rattle.mseed_audit.specs.Audit.{Held, IsAuditAmong}
use Rattle.mseed_audit.specs.Text.{audit_text}

-- what was read is these records and this end after them, and these are the verdicts on the channels, by those of the
-- records that are judged
pub record AuditedIn (scope : Scope) (h : BytesRead) : Type 0 where
  pub views : List View
  pub end : Option StreamFault
  pub verdicts : List (List ℕ × Verdict)
  pub all : AreAllViews h views end
  pub are_verdicts : AreVerdictsAmong (scope.judged views) verdicts

-- by all of them
abbrev pub Audited : BytesRead → Type 0
Audited h = AuditedIn whole h

abbrev pub text_in : (scope : Scope) → {h : BytesRead} → AuditedIn scope h → List ℕ
text_in scope a = audit_text a.verdicts (scope.count a.views) a.end

abbrev pub text_of : {h : BytesRead} → Audited h → List ℕ
text_of a = audit_text a.verdicts (length a.views) a.end

-- how many verdicts say that a channel is broken
abbrev pub broken_count : List (List ℕ × Verdict) → ℕ
broken_count [] = 0
broken_count ((key, Continuous start rate records samples) ∷ vs) = broken_count vs
broken_count ((key, Broken first count) ∷ vs) = broken_count vs + 1

pub record IsSummaryIn (scope : Scope) {h : BytesRead} (s : Summary) (a : AuditedIn scope h) : Type 0 where
  pub records : s.records ≡ scope.count a.views
  pub channels : s.channels ≡ length a.verdicts
  pub broken : s.broken ≡ broken_count a.verdicts
  pub fault : s.fault ≡ is_some a.end
  pub end : s.end ≡ a.end

abbrev pub IsSummary : {h : BytesRead} → Summary → Audited h → Type 0
IsSummary s a = IsSummaryIn whole s a

-- the output accepted a whole text
pub record IsWritten (text : List ℕ) (old new : BytesWritten) : Type 0 where
  pub bytes : new.bytes ≡ old.bytes ++ text
  pub fine : new.failures ≡ old.failures

-- By the outcome: where the output failed, as many bytes of the text as it tells were written before.
abbrev pub IsOutcomeIn : Scope → Result Summary AuditFault → BytesRead → BytesWritten → BytesWritten → Type 0
IsOutcomeIn scope (Ok summary) h old new =
    (a : AuditedIn scope h) × (IsSummaryIn scope summary a × IsWritten (text_in scope a) old new)
IsOutcomeIn scope (Err (Write taken)) h old new = (a : AuditedIn scope h) × IsCutOff taken (text_in scope a) old new
IsOutcomeIn scope (Err Memory) h old new = new ≡ old

abbrev pub IsOutcome : Result Summary AuditFault → BytesRead → BytesWritten → BytesWritten → Type 0
IsOutcome result h old new = IsOutcomeIn whole result h old new

-- the audit holds what the judged records say of all up to the end, which have `bytes` bytes
pub record IsGatheredIn (scope : Scope) (held : Held) (end : Option StreamFault) (bytes : ℕ) (h : BytesRead)
    (views : List View) : Type 0 where
  pub all : AreAllViews h views end
  pub audit : IsAuditAmong held (scope.judged views) (length (added_from 0 views))
  pub size : length (concat (bytes_in views)) ≡ bytes

-- all records up to the end were added, and they have `bytes` bytes
abbrev pub IsGathered : Held → Option StreamFault → ℕ → BytesRead → List View → Type 0
IsGathered held end bytes h views = IsGatheredIn whole held end bytes h views
