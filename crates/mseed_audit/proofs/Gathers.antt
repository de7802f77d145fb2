-- The lines of records with a finding, as they are gathered, written, and followed by the audit's text.
use Rattle.std.proofs.Common.{◌≡◌, ℕ, ◌++◌, List, [], refl, ◌∙◌, inl, inr, Option, Ok, Err, arith}
use Rattle.mseed_record.specs.View.{View}
use Rattle.mseed_stream.specs.Calls.{WritesOn}
use Rattle.mseed_stream.specs.Device.{BytesRead, BytesWritten}
use Rattle.mseed_stream.specs.Gathered.{AreGathered, IsCutOff}
use Rattle.mseed_stream.specs.Walk.{AreViews}
use Rattle.mseed_stream.proofs.Calls.{writes_none, writes_on}
use Rattle.mseed_stream.proofs.Gathered.{all_behind, cut_part, gathered_all, gathered_first, gathered_more, gathered_on}
use Rattle.mseed_stream.proofs.Gathered.{part_of}
use Rattle.mseed_record.specs.Selection.{Selection}
use Rattle.mseed_audit.specs.declared.summary.SelectedSummary.{SelectedSummary}
use Rattle.mseed_audit.specs.declared.each.EachFault.{EachFault}
use Rattle.mseed_audit.specs.declared.each.EachFault.TheVariants.{Write, Memory}
use Rattle.mseed_audit.specs.Each.{AuditedEachIn, IsLinesFaultIn}
use Rattle.mseed_audit.specs.private.Gathered.{AreLined, AreLinedInPart, IsFinished, IsGathering}
use Rattle.mseed_audit.specs.Scope.{Scope, asked, asked_of}
use Rattle.mseed_audit.specs.Selected.{IsEachSelectedOutcome}
use Rattle.mseed_audit.specs.Summary.{text_in}
use Rattle.mseed_audit.specs.Text.{reported_lines}
use Rattle.mseed_audit.specs.Reported.{Reported, AreReported}
use Rattle.mseed_audit.proofs.Outcomes.{timed}
use Rattle.mseed_audit.proofs.Reporting.{lines_after}

-- no memory for more than these lines
pub memory_short : (scope : Scope) (h : BytesRead) (first new : BytesWritten) (text : List ℕ) (offset : ℕ)
    (views : List View) (reported : List Reported) → AreViews h.bytes offset views → new.failures ≡ first.failures
    → AreGathered first new text (reported_lines reported) → AreReported [] (scope.judged views) reported
    → IsLinesFaultIn scope Memory h first new
memory_short scope h first new text offset views reported shown same before are =
    let prefix = gathered_first first new text (reported_lines reported) before in
    (same, search)

-- ---- a report of lines
-- nothing is reported yet
pub lined_first : (first : BytesWritten) (held : Option (List ℕ)) (apart : BytesRead) (text : List ℕ) → text ≡ []
    → AreLined first first held held apart apart text []
lined_first first held apart text none = record {
  lines = rw none (gathered_all first []);
  fine = refl;
  writes = writes_none first held apart;
}

-- after lines that were gathered and written
module _ {first old : BytesWritten} {held holds : Option (List ℕ)} {apart later : BytesRead} {text : List ℕ}
    {reported : List Reported} (before : AreLined first old held holds apart later text reported) where
  -- the lines of more records are gathered
  pub lined_more : (next : List ℕ) (more : List Reported) → next ≡ text ++ reported_lines more
      → AreLined first old held holds apart later next (reported ++ more)
  lined_more next more e = record {
    lines = rw (e, lines_after reported more) (gathered_more first old old text (text ++ reported_lines more)
        (reported_lines reported) (reported_lines more) before.lines (gathered_all old (text ++ reported_lines more)));
    fine = before.fine;
    writes = before.writes;
  }

  module _ (new : BytesWritten) (keeps : Option (List ℕ)) (last : BytesRead)
      (writes : WritesOn old new holds keeps later last) where
    -- some of what is gathered was written
    pub lined_on : (rest : List ℕ) → AreGathered old new rest text → new.failures ≡ old.failures
        → AreLined first new held keeps apart last rest reported
    lined_on rest written fine = record {
      lines = gathered_on first old new text rest (reported_lines reported) before.lines written;
      fine = fine ∙ before.fine;
      writes = writes_on first old new held holds keeps apart later last before.writes writes;
    }

    -- or the output failed
    pub lined_in_part : (taken : ℕ) → IsCutOff taken text old new
        → AreLinedInPart first new held keeps apart last reported
    lined_in_part taken cut = record {
      part = part_of first old new text (reported_lines reported) before.lines (taken, (cut.part, cut.text));
      failed = omega (arith, cut.failed, before.fine);
      writes = writes_on first old new held holds keeps apart later last before.writes writes;
    }

-- what was written where the input wasn't read to its end
pub lines_fault : (A : Type 0) (s : Selection) (fault : EachFault) (h : BytesRead) (first new : BytesWritten)
    (held holds : Option (List ℕ)) (apart later : BytesRead) (text : List ℕ)
    → IsGathering {A = A} s (Err fault) h (AreLined first new held holds apart later text)
    (AreLinedInPart first new held holds apart later)
    → IsLinesFaultIn (asked s) fault h first new × WritesOn first new held holds apart later
lines_fault A s Write h first new held holds apart later text (offset, (views, (shown, r))) =
    let part = r.stands.part in
    let are = r.are_reported in ((r.stands.failed, search), r.stands.writes)
lines_fault A s Memory h first new held holds apart later text (offset, (views, (shown, r))) =
    let lines = memory_short (asked s) h first new text offset views r.reported shown r.stands.fine r.stands.lines
    r.are_reported in
    (lines, r.stands.writes)

-- ---- before the audit's text
-- the lines that were written are those before a text
pub lines_outcome : (s : Selection) (fault : EachFault) (h : BytesRead) (old new : BytesWritten)
    → IsLinesFaultIn (asked s) fault h old new → IsEachSelectedOutcome s (Err fault) h old new
lines_outcome s Write h old new f = (f.0, inl f.1)
lines_outcome s Memory h old new f = (f.0, inl f.1)

-- the audit's text was added to what is gathered, and was written
module _ {s : Selection} {h : BytesRead} {found : SelectedSummary} {views : List View} {reported : List Reported}
    {first old : BytesWritten} {text whole : List ℕ} (f : IsFinished s found h views text whole)
    (are : AreReported [] (asked_of s views) reported) (before : AreGathered first old text (reported_lines reported))
    (same : old.failures ≡ first.failures) (new : BytesWritten) where
  abbrev reported_also : AuditedEachIn (asked s) h
  reported_also = record { audited = f.audited; reported = reported; are_reported = rw f.views_are are }

  -- whole
  pub each_written : new.bytes ≡ old.bytes ++ whole → new.failures ≡ old.failures
      → IsEachSelectedOutcome s (Ok found) h first new
  each_written bytes fine =
      let all = all_behind first old new text (reported_lines reported) (text_in (asked s) f.audited) before
      (rw f.text_is at bytes) in
      (reported_also, ((f.summary, record { bytes = all; fine = fine ∙ same }), timed f))

  -- or a prefix of it, before the output failed
  pub each_short : (taken : ℕ) → IsCutOff taken whole old new → IsEachSelectedOutcome s (Err Write) h first new
  each_short taken cut =
      let part = cut_part first old new taken text (reported_lines reported) (text_in (asked s) f.audited) before
      (rw f.text_is at cut) in
      (omega (arith, cut.failed, same), inr (reported_also, part))
