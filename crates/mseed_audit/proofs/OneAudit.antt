-- What was read has one audit of the records that are judged, with a line for each record with a finding or without.
use Rattle.std.proofs.Common.{◌≡◌, List, Option, ◌++◌, [], Ok}
use Rattle.mseed_record.specs.View.{View}
use Rattle.mseed_stream.specs.Device.{BytesRead, BytesWritten}
use Rattle.mseed_stream.specs.Walk.{AreAllViews}
use Rattle.mseed_stream.specs.declared.fault.StreamFault.{StreamFault}
use Rattle.mseed_audit.specs.declared.summary.Summary.{Summary}
use Rattle.mseed_audit.specs.Scope.{Scope, asked}
use Rattle.mseed_audit.specs.Summary.{AuditedIn, IsSummaryIn, text_in}
use Rattle.mseed_audit.specs.Text.{audit_text, reported_lines}
use Rattle.mseed_audit.proofs.Continuity.{Excludes}
use Rattle.mseed_audit.proofs.OneVerdict.{HasOneFault, verdicts_one}
use Rattle.std.specs.List.{count_by}
use Rattle.mseed_record.specs.Selection.{Selection, lacks_time}
use Rattle.mseed_audit.specs.declared.summary.SelectedSummary.{SelectedSummary}
use Rattle.mseed_audit.specs.Each.{AuditedEachIn, each_text_in}
use Rattle.mseed_audit.specs.Selected.{IsEachSelectedOutcome, IsSelectedOutcome}
use Rattle.mseed_audit.proofs.OneReport.{reported_one}

-- what was read has one list of records, and one end after them
abbrev pub HasOneInput : Type 0
HasOneInput = (h : BytesRead) (views others : List View) (end other : Option StreamFault) → AreAllViews h views end
    → AreAllViews h others other → (views ≡ others) × (end ≡ other)

-- the records, how the input ends after them, and the verdicts
pub record IsSame (scope : Scope) {h : BytesRead} (a b : AuditedIn scope h) : Type 0 where
  pub views : a.views ≡ b.views
  pub end : a.end ≡ b.end
  pub verdicts : a.verdicts ≡ b.verdicts

module _ (only : HasOneFault) (excludes : Excludes) (input : HasOneInput) where
  audit_one : (scope : Scope) (h : BytesRead) (a b : AuditedIn scope h) → IsSame scope a b
  audit_one scope h a b =
      let both = input h a.views b.views a.end b.end a.all b.all in record {
        views = both.0;
        end = both.1;
        verdicts = verdicts_one only excludes (scope.judged b.views) a.verdicts b.verdicts
            (rw both.0 at a.are_verdicts) b.are_verdicts;
      }

  pub text_one : (scope : Scope) (h : BytesRead) (a b : AuditedIn scope h) → text_in scope a ≡ text_in scope b
  text_one scope h a b =
      let same = audit_one scope h a b in
      λ i. audit_text (same.verdicts i) (scope.count (same.views i)) (same.end i)

  pub summary_one : (scope : Scope) (h : BytesRead) (a b : AuditedIn scope h) (s t : Summary) → IsSummaryIn scope s a
      → IsSummaryIn scope t b → s ≡ t
  summary_one scope h a b s t one two =
      let same = audit_one scope h a b in
      let records : s.records ≡ t.records = cc in
      let channels : s.channels ≡ t.channels = cc in
      let broken : s.broken ≡ t.broken = cc in
      let fault : s.fault ≡ t.fault = cc in
      let end : s.end ≡ t.end = cc in
      λ i. record { records = records i; channels = channels i; broken = broken i; fault = fault i; end = end i }

  pub each_one : (scope : Scope) (h : BytesRead) (a b : AuditedEachIn scope h)
      → each_text_in scope a ≡ each_text_in scope b
  each_one scope h a b =
      let same = audit_one scope h a.audited b.audited in
      let reported = reported_one only excludes [] (scope.judged b.audited.views) a.reported b.reported
      (rw same.views at a.are_reported) b.are_reported in
      let text = text_one scope h a.audited b.audited in
      λ i. reported_lines (reported i) ++ text i

  -- what is answered of the records that are asked for
  found_one : (s : Selection) (h : BytesRead) (a b : AuditedIn (asked s) h) (found other : SelectedSummary)
      → IsSummaryIn (asked s) found.summary a → IsSummaryIn (asked s) other.summary b
      → found.without_time ≡ count_by (lacks_time s) a.views → other.without_time ≡ count_by (lacks_time s) b.views
      → found ≡ other
  found_one s h a b found other one two few others =
      let summary = summary_one (asked s) h a b found.summary other.summary one two in
      let same = audit_one (asked s) h a b in
      let without_time : found.without_time ≡ other.without_time = cc in
      λ i. record { summary = summary i; without_time = without_time i }

  -- and what is written
  pub outcome_one : (s : Selection) (h : BytesRead) (found other : SelectedSummary) (old new latter : BytesWritten)
      → IsSelectedOutcome s (Ok found) h old new → IsSelectedOutcome s (Ok other) h old latter
      → (found ≡ other) × (new.bytes ≡ latter.bytes)
  outcome_one s h found other old new latter one two =
      let text = text_one (asked s) h one.0 two.0 in
      (found_one s h one.0 two.0 found other one.1.0.0 two.1.0.0 one.1.1 two.1.1, cc)

  pub each_outcome_one : (s : Selection) (h : BytesRead) (found other : SelectedSummary)
      (old new latter : BytesWritten) → IsEachSelectedOutcome s (Ok found) h old new
      → IsEachSelectedOutcome s (Ok other) h old latter → (found ≡ other) × (new.bytes ≡ latter.bytes)
  each_outcome_one s h found other old new latter one two =
      let text = each_one (asked s) h one.0 two.0 in
      (found_one s h one.0.audited two.0.audited found other one.1.0.0 two.1.0.0 one.1.1 two.1.1, cc)
