-- What an audit writes that writes the part of what was read, and what it answers.
use Rattle.std.specs.Prelude.{◌≡◌, ◌⊎◌, ◌+◌, ℕ, List, ◌++◌, Result, Ok, Err}
use Rattle.mseed_stream.specs.Device.{BytesRead, BytesWritten}
use Rattle.mseed_audit.specs.declared.summary.Summary.{Summary}
use Rattle.mseed_audit.specs.declared.summary.AuditFault.{AuditFault}
use Rattle.mseed_audit.specs.declared.summary.AuditFault.TheVariants.{Write, Memory}
use Rattle.mseed_audit.specs.declared.each.EachFault.{EachFault}
use Rattle.mseed_audit.specs.declared.each.EachFault.TheVariants.{Write as NotWritten, Memory as NoMemory}
use Rattle.mseed_audit.specs.Channels.{added_from}
use Rattle.mseed_stream.specs.Gathered.{EmittedFirst, EmittedPart, IsCutOff}
use Rattle.mseed_audit.specs.Each.{EndsInLinesIn}
use Rattle.mseed_audit.specs.Scope.{whole}
use Rattle.mseed_audit.specs.Summary.{Audited, IsSummary, IsWritten}
use Rattle.mseed_audit.specs.Text.{reported_lines}
use Rattle.mseed_audit.specs.Reported.{Reported, AreReportedOf}
use Rattle.mseed_join.specs.Parts.{IsPartOf}
use Rattle.mseed_join.specs.Written.{Written, part_text}

-- what was read is audited so, and this is the part of its records, with the fault at their end, if there is one
pub record AuditedPart (h : BytesRead) : Type 0 where
  pub audited : Audited h
  pub written : Written
  pub part : IsPartOf written.part audited.views
  pub faults : written.faults ≡ 0
  pub end : written.end ≡ audited.end

-- By the outcome: the answer is that of the audit; where the output failed, as many bytes of the part's text
-- as it tells were written before.
abbrev pub IsPartOutcome : Result Summary AuditFault → BytesRead → BytesWritten → BytesWritten → Type 0
IsPartOutcome (Ok summary) h old new =
    (a : AuditedPart h) × (IsSummary summary a.audited × IsWritten (part_text a.written) old new)
IsPartOutcome (Err (Write taken)) h old new = (a : AuditedPart h) × IsCutOff taken (part_text a.written) old new
IsPartOutcome (Err Memory) h old new = new ≡ old

-- ---- with a line for each record with a finding
-- and this is reported of its records
pub record ReportedPart (h : BytesRead) : Type 0 where
  pub parted : AuditedPart h
  pub reported : List Reported
  pub are_reported : AreReportedOf (added_from 0 parted.audited.views) reported

-- the lines of the records with a finding, and then the text of the part
abbrev pub reported_text : {h : BytesRead} → ReportedPart h → List ℕ
reported_text a = reported_lines a.reported ++ part_text a.parted.written

-- what was written is so of a text: the lines of the first records, or the whole
abbrev pub EndsInPart : (List ℕ → Type 0) → BytesRead → Type 0
EndsInPart Emitted h = EndsInLinesIn whole Emitted h ⊎ ((a : ReportedPart h) × Emitted (reported_text a))

-- By the outcome. An output that failed isn't called again.
abbrev pub IsPartEachOutcome : Result Summary EachFault → BytesRead → BytesWritten → BytesWritten → Type 0
IsPartEachOutcome (Ok summary) h old new =
    (a : ReportedPart h) × (IsSummary summary a.parted.audited × IsWritten (reported_text a) old new)
IsPartEachOutcome (Err NotWritten) h old new = (new.failures ≡ old.failures + 1) × EndsInPart (EmittedPart old new) h
IsPartEachOutcome (Err NoMemory) h old new =
    (new.failures ≡ old.failures) × EndsInLinesIn whole (EmittedFirst old new) h
