-- What is reported of records, with one more record.
use Rattle.std.proofs.Common.{◌≡◌, ◌≢◌, ℕ, ◌+◌, ◌++◌, List, [], ◌∷◌, length, map, Option, refl, sym, ap, ◌∙◌}
use Rattle.std.proofs.Common.{append_assoc, append-nil, arith, Result, Ok, Err, Bool, true, false, if◌then◌else◌}
use Rattle.std.proofs.lemmas.List.{length-append}
use Rattle.std.specs.Prelude.{MatchResult}
use Rattle.std.specs.Result.{IsErrAnd}
use Rattle.mseed_record.specs.View.{View}
use Rattle.mseed_stream.specs.Device.{BytesRead}
use Rattle.mseed_stream.specs.CutterState.{CutterState}
use Rattle.mseed_stream.specs.Walk.{AreAllViews, AreViews}
use Rattle.mseed_stream.specs.declared.fault.StreamFault.{StreamFault}
use Rattle.mseed_stream.proofs.Handed.{views_stay}
use Rattle.mseed_record.proofs.Counted.{count_more}
use Rattle.mseed_record.specs.Selection.{Selection, answer_of, asks_for, is_asked, is_without_time, lacks_time}
use Rattle.mseed_record.specs.declared.answer.Answer.{Answer}
use Rattle.mseed_record.specs.declared.answer.Answer.TheVariants.{AskedFor}
use Rattle.mseed_audit.specs.declared.audits.Memory.{Memory as NoRoom}
use Rattle.mseed_audit.specs.declared.finding.Why.{Why}
use Rattle.mseed_audit.specs.declared.passed.Passed.{Passed}
use Rattle.mseed_audit.specs.declared.summary.Step.{Step}
use Rattle.mseed_audit.specs.Channels.{Placed, added_from}
use Rattle.mseed_audit.specs.Audit.{Held, IsAuditAmong}
use Rattle.mseed_audit.specs.Scope.{asked_of, placed_of}
use Rattle.mseed_audit.specs.private.Gathered.{HasEnded, HasJudged, HasReport, HasReportTo, IsJudged, IsNext}
use Rattle.mseed_audit.specs.Text.{reported_line, reported_lines}
use Rattle.mseed_audit.specs.Reported.{Reported, AreReported, IsFoundAfter, none, one, reported_at}
use Rattle.mseed_audit.proofs.More.{numbered_more, placed_next}
use Rattle.mseed_audit.proofs.Views.{added_length, asked_at}
use Rattle.mseed_audit.proofs.Following.{added_after, end_of}
use Rattle.std.specs.List.{concat}
use Rattle.std.proofs.lemmas.List.Elements.{filter-append}

pub reported_snoc : (earlier ps : List Placed) (p : Placed) (why : Option Why) (reported : List Reported)
    → AreReported earlier ps reported
    → IsFoundAfter (earlier ++ ps) p.view why
    → AreReported earlier (ps ++ p ∷ []) (reported ++ reported_at p why)
reported_snoc earlier [] p why reported (none _) found =
    rw (← append-nil (reported_at p why))
    (one earlier p [] why [] (rw (append-nil earlier) at found) (none (earlier ++ p ∷ [])))
reported_snoc earlier (q ∷ ps) p why reported (one _ _ _ first rest h later) found =
    rw (append_assoc (reported_at q first) rest _) (one earlier q (ps ++ p ∷ []) first (rest ++ reported_at p why) h
    (reported_snoc (earlier ++ q ∷ []) ps p why rest later (rw (append_assoc earlier (q ∷ []) ps) found)))

-- and their lines
pub lines_after : (ts us : List Reported) → reported_lines (ts ++ us) ≡ reported_lines ts ++ reported_lines us
lines_after [] us = refl
lines_after (t ∷ ts) us = rw (lines_after ts us) (sym (append_assoc (reported_line t) _ _))

-- ---- one more record
-- a report of the same records stands otherwise
report_on : {ps : List Placed} {Before After : List Reported → Type 0} → HasReport ps Before
    → ((reported : List Reported) → Before reported → After reported) → HasReport ps After
report_on r on =
    record { reported = r.reported; are_reported = r.are_reported; stands = on r.reported r.stands }

-- records end as many bytes on as they have
end_is : (start : ℕ) (views : List View) → end_of start views ≡ start + length (concat (map (λ v. v.bytes) views))
end_is start [] = omega arith
end_is start (v ∷ views) =
    omega (arith, end_is (start + length v.bytes) views, length-append v.bytes (concat (map (λ v. v.bytes) views)))

-- a record is among those that are asked for, with its number and where it begins, where it is asked for
asked_more : (s : Selection) (bytes : List ℕ) (held : Held) (c : ℕ) (views : List View) (v : View)
    → AreViews bytes c views → held.added ≡ length (added_from 0 views)
    → asked_of s (views ++ v ∷ []) ≡ asked_of s views ++ asked_at s (placed_next held v c)
asked_more s bytes held c views v before number =
    let next : 1 + length (added_from 0 views) ≡ held.added + 1 = omega (arith, number) in
    let begins : end_of 0 views ≡ c = omega (arith, end_is 0 views, before.offset_is) in
    rw (added_after 0 views v, begins, numbered_more 1 (added_from 0 views), next)
    (filter-append (λ p. asks_for s p.view) (placed_of views) (placed_next held v c ∷ []))

-- a record that gets another answer is passed
not_asked : (answer : Answer) → answer ≢ AskedFor → is_asked answer ≡ false
not_asked AskedFor other = absurd (other refl)
not_asked answer other = refl

counts_by : (b : Bool) (left time : ℕ) → left + (if b then 0 else 1) + (time + (if b then 1 else 0)) ≡ left + time + 1
counts_by true left time = omega arith
counts_by false left time = omega arith

-- an audit takes these records in, of one that came
abbrev pub Adds : Held → Held → List Placed → Type 0
Adds held next more =
    (ps : List Placed) (count : ℕ) → IsAuditAmong held ps count → IsAuditAmong next (ps ++ more) (count + 1)

module _ {s : Selection} {bytes : List ℕ} {offset : ℕ} {views : List View} {held : Held} {p : Passed}
    {Before : List Reported → Type 0} (shown : AreViews bytes offset views) (judged : IsJudged s held p Before views)
    (v : View) (next : Held) where
  -- one more is judged or passed
  judged_also : (q : Passed) {After : List Reported → Type 0} → Adds held next (asked_at s (placed_next held v offset))
      → length (asked_at s (placed_next held v offset)) + q.left + q.without_time ≡ p.left + p.without_time + 1
      → q.without_time ≡ p.without_time + (if lacks_time s v then 1 else 0)
      → HasReport (asked_of s views ++ asked_at s (placed_next held v offset)) After
      → IsJudged s next q After (views ++ v ∷ [])
  judged_also q adds many few report =
      let all = asked_more s bytes held offset views v shown judged.audit.number in
      let count : length (views ++ v ∷ []) ≡ length views + 1 = length-append views (v ∷ []) in
      let number : length (added_from 0 (views ++ v ∷ [])) ≡ length (added_from 0 views) + 1 =
      omega (arith, added_length 0 (views ++ v ∷ []), count, added_length 0 views) in record {
        audit = rw (all, number) (adds (asked_of s views) (length (added_from 0 views)) judged.audit);
        passed = record {
          all = rw all (omega (arith, judged.passed.all, many, count, length-append {A = Placed}));
          without_time = rw (count_more (lacks_time s) views v)
              (omega (arith, few, judged.passed.without_time));
        };
        report = rw all report;
      }

  -- it is asked for, was added with what is found of it, and is reported, unless there is no memory for it
  pub judged_asked : {E : Type 0} (r : Result (Unit {0}) E) (why : Option Why) (After : List Reported → Type 0)
      → answer_of s v ≡ AskedFor → Adds held next (placed_next held v offset ∷ [])
      → ((ps : List Placed) (count : ℕ) → IsAuditAmong held ps count → IsFoundAfter ps v why)
      → ((reported : List Reported) → Before reported → MatchResult r
      (λ _. After (reported ++ reported_at (placed_next held v offset) why)) (λ _. After reported))
      → MatchResult r (λ _. IsJudged s next p After (views ++ v ∷ [])) (λ _. HasReport (asked_of s views) After)
  judged_asked (Ok u) why After here adds finds reports =
      let report = judged.report in
      let found = finds (asked_of s views) (length (added_from 0 views)) judged.audit in
      judged_also p (λ ps count before. rw here (adds ps count before))
      (rw here (omega arith)) (rw here (omega arith))
      (rw here (record {
        reported = report.reported ++ reported_at (placed_next held v offset) why;
        are_reported = reported_snoc [] (asked_of s views) _ why report.reported report.are_reported found;
        stands = reports report.reported report.stands;
      }))
  judged_asked (Err e) why After here adds finds reports = report_on judged.report reports

  -- it isn't asked for
  pub judged_passed : (q : Passed) (answer : Answer) → answer ≡ answer_of s v → answer ≢ AskedFor
      → ((ps : List Placed) (count : ℕ) → IsAuditAmong held ps count → IsAuditAmong next ps (count + 1))
      → q ≡ record {
        left = p.left + (if is_without_time answer then 0 else 1);
        without_time = p.without_time + (if is_without_time answer then 1 else 0);
      } → IsJudged s next q Before (views ++ v ∷ [])
  judged_passed q answer is other passes counts =
      let none_at : is_asked (answer_of s v) ≡ false = ap is_asked (sym is) ∙ not_asked answer other in
      judged_also q (λ ps count before. rw (none_at, append-nil) (passes ps count before))
      (rw (none_at, counts) (omega (arith, counts_by (is_without_time answer) p.left p.without_time)))
      (rw (counts, is) refl)
      (rw (none_at, append-nil) judged.report)

-- ---- after the records that were judged so far
module _ {s : Selection} {h : BytesRead} {c : CutterState} {held : Held} {p : Passed}
    {Before : List Reported → Type 0} (before : HasJudged s h c held p Before) where
  -- their report stands otherwise
  pub judged_on : {After : List Reported → Type 0} → ((reported : List Reported) → Before reported → After reported)
      → HasJudged s h c held p After
  judged_on on = record {
    views = before.views;
    handed = before.handed;
    judged = record {
      audit = before.judged.audit;
      passed = before.judged.passed;
      report = report_on before.judged.report on;
    };
  }

  -- so much of the input has such a report
  pub report_to : {After : List Reported → Type 0} → ((reported : List Reported) → Before reported → After reported)
      → HasReportTo s h After
  report_to on = (c.offset, (before.views, (before.handed.records, report_on before.judged.report on)))

  -- the input ends with them
  pub ended_with : {new : BytesRead} {end : Option StreamFault} → AreAllViews new before.views end
      → HasEnded s held p end c.offset new before.views × HasReport (asked_of s before.views) Before
  ended_with {new} {end} all =
      let ended : HasEnded s held p end c.offset new before.views = record {
        all = record { all = all; audit = before.judged.audit; size = before.handed.records.offset_is };
        passed = before.judged.passed;
      } in (ended, before.judged.report)

  -- or there was no memory for more, of an input that was read on
  pub read_on : (new : BytesRead) (more : List ℕ) → new.bytes ≡ h.bytes ++ more
      → AreViews new.bytes c.offset before.views
  read_on new more read = views_stay h.bytes new.bytes more c.offset before.views
      (omega (arith, before.handed.along.read.reported)) read before.handed.records

pub next_none : (s : Selection) (r : Result Step NoRoom) (Q : NoRoom → Type 0) (views : List View) (offset : ℕ)
    (old new : BytesRead) (c : CutterState) (held : Held) (p : Passed) (Stands : List Reported → Type 0)
    → IsErrAnd r Q → AreViews new.bytes offset views → HasReport (asked_of s views) Stands
    → IsNext s r views offset old new c held p Stands
next_none s (Ok step) Q views offset old new c held p Stands is shown report = absurd is
next_none s (Err e) Q views offset old new c held p Stands is shown report = (shown, report)
