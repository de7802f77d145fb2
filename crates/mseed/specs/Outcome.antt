-- How a command ends: by a status and, where it failed, by lines on standard error.
use Rattle.std.specs.Prelude.{◌≡◌, ℕ, List, [], ◌∷◌, nat_lt, if◌then◌else◌, Option, Result, Ok, Err, codes, is_some}
use Rattle.mseed_stream.specs.Device.{BytesWritten}
use Rattle.mseed_stream.specs.LineWritten.{WritesLine}
use Rattle.mseed_stream.specs.declared.fault.StreamFault.{StreamFault}
use Rattle.mseed_audit.specs.declared.summary.SelectedSummary.{SelectedSummary}
use Rattle.mseed_audit.specs.declared.summary.Summary.{Summary}
use Rattle.mseed_audit.specs.declared.summary.AuditFault.{AuditFault}
use Rattle.mseed_audit.specs.declared.summary.AuditFault.TheVariants.{Write, Memory}
use Rattle.mseed_audit.specs.declared.each.EachFault.{EachFault}
use Rattle.mseed_audit.specs.declared.each.EachFault.TheVariants as each
use Rattle.mseed_files.specs.Blame.{blame_by}
use Rattle.mseed_files.specs.InputFiles.{no_memory}
use Rattle.mseed_files.specs.declared.blame.Blame.{Blame}
use Rattle.mseed_files.specs.declared.blame.Blame.TheVariants.{Nothing}
use Rattle.mseed_repack.specs.Selected.{without_time_lines}
use Rattle.mseed.specs.declared.outcome.Ended.{Ended}

-- the line of an output that failed
abbrev pub write_failed : List ℕ
write_failed = codes "mseed: write failed\n"

-- lines were written, one after another
abbrev pub ReportsLines : List (List ℕ) → BytesWritten → BytesWritten → Type 0
ReportsLines [] old new = new ≡ old
ReportsLines (line ∷ []) old new = WritesLine line old new
ReportsLines (line ∷ next ∷ lines) old new =
    (between : BytesWritten) × (WritesLine line old between × ReportsLines (next ∷ lines) between new)

-- what a command comes to at its end: its status, its lines on standard error, and what is wrong with its input
pub record Report : Type 0 where
  pub status : ℕ
  pub lines : List (List ℕ)
  pub blame : Blame

abbrev pub without_line : ℕ → Blame → Report
without_line status blame = record { status = status; lines = []; blame = blame }

abbrev pub with_line : ℕ → List ℕ → Blame → Report
with_line status line blame = record { status = status; lines = line ∷ []; blame = blame }

-- it ended so
abbrev pub EndsBy : Report → Ended → BytesWritten → BytesWritten → Type 0
EndsBy report ended old new =
    (ended.status ≡ report.status) × (ended.blame ≡ report.blame) × ReportsLines report.lines old new

-- it was written how many records lack a time; the input's fault is in what was written, and has no line
abbrev pub untimed_report : ℕ → ℕ → Option StreamFault → Report
untimed_report status count end =
    record { status = status; lines = without_time_lines count; blame = blame_by end }

-- the exit status of an audit that was written: 2 for a fault of the input, else 1 for a broken channel, else 0
abbrev pub summary_status : Summary → ℕ
summary_status s = if is_some s.end then 2 else if nat_lt 0 s.broken then 1 else 0

abbrev pub summary_report : SelectedSummary → Report
summary_report found = untimed_report (summary_status found.summary) found.without_time found.summary.end

-- an audit
abbrev pub audit_report : Result SelectedSummary AuditFault → Report
audit_report (Ok found) = summary_report found
audit_report (Err (Write taken)) = with_line 2 write_failed Nothing
audit_report (Err Memory) = with_line 2 no_memory Nothing

abbrev pub EndsAudit : Result SelectedSummary AuditFault → Ended → BytesWritten → BytesWritten → Type 0
EndsAudit outcome ended old new = EndsBy (audit_report outcome) ended old new

-- and one that reports each finding
abbrev pub each_report : Result SelectedSummary EachFault → Report
each_report (Ok found) = summary_report found
each_report (Err each.Write) = with_line 2 write_failed Nothing
each_report (Err each.Memory) = with_line 2 no_memory Nothing

abbrev pub EndsEach : Result SelectedSummary EachFault → Ended → BytesWritten → BytesWritten → Type 0
EndsEach outcome ended old new = EndsBy (each_report outcome) ended old new

-- a part is of all records, and none of them lacks a time
abbrev pub of_all : {F : Type 0} → Result Summary F → Result SelectedSummary F
of_all (Ok summary) = Ok (record { summary = summary; without_time = 0 })
of_all (Err fault) = Err fault
