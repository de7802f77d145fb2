-- What the audit of the records that are asked for writes and answers: they are judged as if no others were there, and
-- their numbers and offsets are those among all records.
use Rattle.std.specs.Prelude.{◌≡◌, Result, Ok, Err}
use Rattle.std.specs.List.{count_by}
use Rattle.mseed_stream.specs.Device.{BytesRead, BytesWritten}
use Rattle.mseed_record.specs.Selection.{Selection, lacks_time}
use Rattle.mseed_audit.specs.declared.each.EachFault.{EachFault}
use Rattle.mseed_audit.specs.declared.summary.AuditFault.{AuditFault}
use Rattle.mseed_audit.specs.declared.summary.SelectedSummary.{SelectedSummary}
use Rattle.mseed_audit.specs.Each.{AuditedEachIn, IsEachOutcomeIn, each_text_in}
use Rattle.mseed_audit.specs.Scope.{asked}
use Rattle.mseed_audit.specs.Summary.{AuditedIn, IsOutcomeIn, IsSummaryIn, IsWritten, text_in}

-- by the outcome: the answer says too how many records lack a time
abbrev pub IsSelectedOutcome : Selection → Result SelectedSummary AuditFault → BytesRead → BytesWritten → BytesWritten
    → Type 0
IsSelectedOutcome s (Ok found) h old new =
    (a : AuditedIn (asked s) h) × ((IsSummaryIn (asked s) found.summary a × IsWritten (text_in (asked s) a) old new)
    × (found.without_time ≡ count_by (lacks_time s) a.views))
IsSelectedOutcome s (Err fault) h old new = IsOutcomeIn (asked s) (Err fault) h old new

-- the same, with a line for each record with a finding
abbrev pub IsEachSelectedOutcome : Selection → Result SelectedSummary EachFault → BytesRead → BytesWritten
    → BytesWritten → Type 0
IsEachSelectedOutcome s (Ok found) h old new =
    (a : AuditedEachIn (asked s) h)
    × ((IsSummaryIn (asked s) found.summary a.audited × IsWritten (each_text_in (asked s) a) old new)
    × (found.without_time ≡ count_by (lacks_time s) a.audited.views))
IsEachSelectedOutcome s (Err fault) h old new = IsEachOutcomeIn (asked s) (Err fault) h old new
