-- Statements of the records that an audit reads, and of what it reports of them: no public contract cites them.
use Rattle.std.specs.Prelude.{◌≡◌, ◌⊎◌, ℕ, ◌+◌, ◌<◌, List, [], ◌∷◌, ◌++◌, length, Option, Result, Ok, Err}
use Rattle.std.specs.Prelude.{IfOk, IsOk, OnErr, OnOk}
use Rattle.std.specs.List.{count_by}
use Rattle.mseed_record.specs.Header.{key_at}
use Rattle.mseed_record.specs.View.{View}
use Rattle.mseed_steim.specs.Reading.{count_of}
use Rattle.mseed_stream.specs.Calls.{WritesOn}
use Rattle.mseed_stream.specs.Device.{BytesRead, BytesWritten}
use Rattle.mseed_stream.specs.Gathered.{AreGathered, EmittedPart}
use Rattle.mseed_stream.specs.CutterState.{CutterState}
use Rattle.mseed_stream.specs.Walk.{AreViews, HasHandedOut}
use Rattle.mseed_stream.specs.declared.fault.StreamFault.{StreamFault}
use Rattle.mseed_record.specs.Selection.{Selection, lacks_time}
use Rattle.mseed_audit.specs.declared.audits.Memory.{Memory as NoRoom}
use Rattle.mseed_audit.specs.declared.each.EachFault.{EachFault}
use Rattle.mseed_audit.specs.declared.each.EachFault.TheVariants.{Write, Memory}
use Rattle.mseed_audit.specs.declared.finding.Why.{Why}
use Rattle.mseed_audit.specs.declared.passed.Passed.{Passed}
use Rattle.mseed_audit.specs.declared.summary.GatheredSelected.{GatheredSelected}
use Rattle.mseed_audit.specs.declared.summary.SelectedSummary.{SelectedSummary}
use Rattle.mseed_audit.specs.declared.summary.Step.{Step}
use Rattle.mseed_audit.specs.declared.summary.Step.TheVariants.{Taken as OneMore, Ended}
use Rattle.mseed_audit.specs.Audit.{Held, HoldsKey, IsAuditAmong}
use Rattle.mseed_audit.specs.Channels.{Placed, added_from}
use Rattle.mseed_audit.specs.Reported.{Reported, AreReported, IsFoundAfter}
use Rattle.mseed_audit.specs.Scope.{asked, asked_of}
use Rattle.mseed_audit.specs.Summary.{AuditedIn, IsGatheredIn, IsSummaryIn, text_in}
use Rattle.mseed_audit.specs.Text.{reported_lines}

-- a record more was added, of which this is found; without memory the audit is as it was
pub record IsAdded (r : Result (Option Why) NoRoom) (v : View) (offset : ℕ) (old new : Held) : Type 0 where
  pub among : (ps : List Placed) (count : ℕ) → IsAuditAmong old ps count → OnOk r (IsAuditAmong new
      (ps ++ record { view = v; offset = offset; number = old.added + 1 } ∷ []) (count + 1))
  pub found : (ps : List Placed) (count : ℕ) → IsAuditAmong old ps count → IfOk r (λ why. IsFoundAfter ps v why)
  pub number : OnOk r (new.added ≡ old.added + 1)
  pub unchanged : OnErr r (new ≡ old)
  pub memory : (count_of v ≡ 0) ⊎ HoldsKey old (key_at v.bytes) → IsOk r

-- so many of these records were passed
pub record IsPassed (s : Selection) (p : Passed) (views : List View) : Type 0 where
  pub all : length (asked_of s views) + p.left + p.without_time ≡ length views
  pub without_time : p.without_time ≡ count_by (lacks_time s) views

-- what is reported of these records, where a report stands so with it
pub record HasReport (ps : List Placed) (Stands : List Reported → Type 0) : Type 0 where
  pub reported : List Reported
  pub are_reported : AreReported [] ps reported
  pub stands : Stands reported

-- the audit of these records, what was passed of them, and their report
pub record IsJudged (s : Selection) (held : Held) (p : Passed) (Stands : List Reported → Type 0) (views : List View)
    : Type 0 where
  pub audit : IsAuditAmong held (asked_of s views) (length (added_from 0 views))
  pub passed : IsPassed s p views
  pub report : HasReport (asked_of s views) Stands

-- these records were handed out, and each was judged or passed
pub record HasJudged (s : Selection) (h : BytesRead) (c : CutterState) (held : Held) (p : Passed)
    (Stands : List Reported → Type 0) : Type 0 where
  pub views : List View
  pub handed : HasHandedOut h c views
  pub judged : IsJudged s held p Stands views

-- a record more was handed out than these, and it was judged or passed
pub record IsOneMore (s : Selection) (views : List View) (old new : BytesRead) (c : CutterState) (held : Held)
    (p : Passed) (Stands : List Reported → Type 0) : Type 0 where
  pub all : HasJudged s new c held p Stands
  pub view : View
  pub more : all.views ≡ views ++ view ∷ []
  pub called : old.calls < new.calls

-- the end of an input, and what was passed up to it
pub record HasEnded (s : Selection) (held : Held) (p : Passed) (end : Option StreamFault) (bytes : ℕ) (h : BytesRead)
    (views : List View) : Type 0 where
  pub all : IsGatheredIn (asked s) held end bytes h views
  pub passed : IsPassed s p views

-- an input has ended, and its records have such a report
abbrev pub HasEndedWith : Selection → Held → Passed → Option StreamFault → ℕ → BytesRead → (List Reported → Type 0)
    → Type 0
HasEndedWith s held p end bytes h Stands =
    (views : List View) × (HasEnded s held p end bytes h views × HasReport (asked_of s views) Stands)

-- the first records of an input have such a report
abbrev pub HasReportTo : Selection → BytesRead → (List Reported → Type 0) → Type 0
HasReportTo s h Stands =
    (offset : ℕ) × ((views : List View) × (AreViews h.bytes offset views × HasReport (asked_of s views) Stands))

-- What comes next of an input, after these records that were judged or passed: one more, its end, so that they are
-- all, or a want of memory.
abbrev pub IsNext : Selection → Result Step NoRoom → List View → ℕ → BytesRead → BytesRead → CutterState → Held → Passed
    → (List Reported → Type 0) → Type 0
IsNext s (Ok OneMore) views offset old new c held p Stands = IsOneMore s views old new c held p Stands
IsNext s (Ok (Ended end)) views offset old new c held p Stands =
    HasEnded s held p end offset new views × HasReport (asked_of s views) Stands
IsNext s (Err e) views offset old new c held p Stands =
    AreViews new.bytes offset views × HasReport (asked_of s views) Stands

-- by the outcome: the input was read to its end, or there was no memory for more, or the output failed
abbrev pub IsGathering : {A : Type 0} → Selection → Result (GatheredSelected A) EachFault → BytesRead
    → (List Reported → Type 0) → (List Reported → Type 0) → Type 0
IsGathering s (Ok found) h Stands Fails =
    HasEndedWith s found.gathered.audit found.passed found.gathered.end found.gathered.bytes h Stands
IsGathering s (Err Memory) h Stands Fails = HasReportTo s h Stands
IsGathering s (Err Write) h Stands Fails = HasReportTo s h Fails

-- the text of the audit of these records was added, and the answer is what it says in numbers
pub record IsFinished (s : Selection) (found : SelectedSummary) (h : BytesRead) (views : List View)
    (text next : List ℕ) : Type 0 where
  pub audited : AuditedIn (asked s) h
  pub views_are : audited.views ≡ views
  pub summary : IsSummaryIn (asked s) found.summary audited
  pub without_time : found.without_time ≡ count_by (lacks_time s) views
  pub text_is : next ≡ text ++ text_in (asked s) audited

-- ---- what is reported, as lines
-- the lines were written or are gathered in a text
pub record AreLined (first now : BytesWritten) (held holds : Option (List ℕ)) (apart later : BytesRead)
    (text : List ℕ) (reported : List Reported) : Type 0 where
  pub lines : AreGathered first now text (reported_lines reported)
  pub fine : now.failures ≡ first.failures
  pub writes : WritesOn first now held holds apart later

-- or the output failed before all were written
pub record AreLinedInPart (first now : BytesWritten) (held holds : Option (List ℕ)) (apart later : BytesRead)
    (reported : List Reported) : Type 0 where
  pub part : EmittedPart first now (reported_lines reported)
  pub failed : now.failures ≡ first.failures + 1
  pub writes : WritesOn first now held holds apart later
