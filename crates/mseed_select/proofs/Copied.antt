-- The records that are asked for, as what is written of them is gathered and written.
use Rattle.std.proofs.Common.{subst, ◌≡◌, ℕ, ◌+◌, ◌++◌, List, [], ◌∷◌, length, refl, sym, ap, ◌∙◌}
use Rattle.std.proofs.Common.{append_assoc, append-nil, arith, inl, inr, Bool, true, false, cond, Result, Ok, Err}
use Rattle.std.proofs.lemmas.List.{length-append}
use Rattle.std.proofs.lemmas.List.Elements.{filter-append}
use Rattle.std.proofs.lemmas.Result.{err_from_is_err_and}
use Rattle.std.specs.List.{concat}
use Rattle.std.specs.Result.{IsErrAnd}
use Rattle.mseed_record.specs.View.{View}
use Rattle.mseed_stream.specs.Device.{BytesRead, BytesWritten}
use Rattle.mseed_stream.specs.Gathered.{AreGathered, EmittedPart, IsCutOff}
use Rattle.mseed_stream.proofs.Gathered.{all_behind, cut_part, gathered_all, gathered_also, gathered_first, gathered_on}
use Rattle.mseed_stream.proofs.Gathered.{part_of}
use Rattle.mseed_stream.proofs.Handed.{views_stay}
use Rattle.mseed_stream.specs.CutterState.{CutterState}
use Rattle.mseed_stream.specs.Walk.{AreViews, HasHandedOut, bytes_in}
use Rattle.mseed_select.specs.Counting.{counts_of, one_if}
use Rattle.mseed_select.specs.Formatted.{IsFormatted, IsWrittenInPart, Texts, asked_text, texts_of}
use Rattle.mseed_select.specs.Halves.{Placed, placed_from}
use Rattle.mseed_record.proofs.Counted.{count_more}
use Rattle.mseed_record.specs.Selection.{Selection, answer_of, asks_for, is_asked, is_without_time, lacks_time}
use Rattle.mseed_record.specs.declared.answer.Answer.{Answer}
use Rattle.mseed_select.specs.declared.copying.Step.{Step}
use Rattle.mseed_select.specs.declared.counts.Counts.{Counts}
use Rattle.mseed_select.specs.declared.fault.SelectFault.{SelectFault}
use Rattle.mseed_select.specs.declared.fault.SelectFault.TheVariants.{Write, Memory}
use Rattle.mseed_select.specs.declared.selected.Selected.{Selected}
use Rattle.mseed_select.specs.private.Copying.{HasCopied, IsCopying, IsHeld, IsNext, text_by}

-- the records that were handed out stay those of what was read
pub stay : (old new : BytesRead) (c : CutterState) (views : List View) (more : List ℕ) → HasHandedOut old c views
    → new.bytes ≡ old.bytes ++ more → AreViews new.bytes c.offset views
stay old new c views more before e =
    views_stay old.bytes new.bytes more c.offset views (omega (arith, before.along.read.reported)) e before.records

-- ---- one more record
abbrev made : ℕ → ℕ → ℕ → Counts
made records asked_for without_time =
    record { records = records; asked_for = asked_for; without_time = without_time }

-- what is counted of one more
pub counts_more : (s : Selection) (views : List View) (v : View) (old new : Counts) (answer : Answer)
    → old ≡ counts_of s views → answer ≡ answer_of s v
    → new ≡ made (old.records + 1) (old.asked_for + one_if (is_asked answer))
    (old.without_time + one_if (is_without_time answer))
    → new ≡ counts_of s (views ++ v ∷ [])
counts_more s views v old new answer before answered e = rw (e, before, answered)
    (rw (length-append views (v ∷ []), count_more (asks_for s) views v, count_more (lacks_time s) views v) refl)

-- ---- the text of one more
texts_append : (t : Texts) (ps qs : List Placed) → texts_of t (ps ++ qs) ≡ texts_of t ps ++ texts_of t qs
texts_append t [] qs = refl
texts_append t (p ∷ ps) qs =
    rw (texts_append t ps qs) (sym (append_assoc (t.of_record p.offset p.view) _ _))

placed_more : (offset : ℕ) (views : List View) (v : View) (n : ℕ) → n ≡ offset + length (concat (bytes_in views))
    → placed_from offset (views ++ v ∷ []) ≡ placed_from offset views ++ record { offset = n; view = v } ∷ []
placed_more offset [] v n e = ap (λ (m : ℕ). placed_from m (v ∷ [])) (omega (arith, e))
placed_more offset (w ∷ views) v n e =
    ap (λ (ps : List Placed). record { offset = offset; view = w } ∷ ps)
    (placed_more (offset + length w.bytes) views v n
    (omega (arith, e, length-append w.bytes (concat (bytes_in views)))))

one_text : (t : Texts) (b : Bool) (p : Placed)
    → texts_of t (cond b (p ∷ []) []) ≡ cond b (t.of_record p.offset p.view) []
one_text t true p = append-nil (t.of_record p.offset p.view)
one_text t false p = refl

-- it comes after that of the others, where it is asked for
pub text_more : (t : Texts) (s : Selection) (bytes : List ℕ) (offset : ℕ) (views : List View) (v : View)
    → AreViews bytes offset views → asked_text t s (views ++ v ∷ []) ≡ asked_text t s views ++ text_by t s offset v
text_more t s bytes offset views v shown =
    let here : Placed = record { offset = offset; view = v } in
    rw (placed_more 0 views v offset (omega (arith, shown.offset_is)), filter-append, texts_append)
    (ap (λ (xs : List ℕ). asked_text t s views ++ xs) (one_text t (asks_for s v) here))

-- ---- what is held of them
-- some more was added of the next record
pub held_more : (t : Texts) (s : Selection) (bytes : List ℕ) (offset : ℕ) (first now : BytesWritten)
    (text added : List ℕ) (views : List View) (v : View) → AreViews bytes offset views
    → added ≡ text ++ text_by t s offset v → IsHeld t s first now text views
    → IsHeld t s first now added (views ++ v ∷ [])
held_more t s bytes offset first now text added views v shown e held = record {
  gathered = gathered_also first now now text added (asked_text t s views) (text_by t s offset v)
      (asked_text t s (views ++ v ∷ [])) held.gathered
      (subst (λ (xs : List ℕ). AreGathered now now added xs) e (gathered_all now added))
      (text_more t s bytes offset views v shown);
  fine = held.fine;
}

-- some of it was written
pub held_on : (t : Texts) (s : Selection) (first old new : BytesWritten) (text rest : List ℕ) (views : List View)
    → IsHeld t s first old text views → AreGathered old new rest text → new.failures ≡ old.failures
    → IsHeld t s first new rest views
held_on t s first old new text rest views held written fine = record {
  gathered = gathered_on first old new text rest (asked_text t s views) held.gathered written;
  fine = fine ∙ held.fine;
}

-- ---- how it ends
-- no memory for more
pub cut_short : (t : Texts) (s : Selection) (h : BytesRead) (offset : ℕ) (first now : BytesWritten) (text : List ℕ)
    (views : List View) → AreViews h.bytes offset views → IsHeld t s first now text views
    → IsFormatted t s (Err Memory) h first now
cut_short t s h offset first now text views shown held =
    let prefix = gathered_first first now text (asked_text t s views) held.gathered in
    (held.fine, (offset, (views, record { shown = shown; prefix = inl prefix })))

-- the output failed
pub cut_off : (t : Texts) (s : Selection) (h : BytesRead) (offset : ℕ) (first old new : BytesWritten)
    (text : List ℕ) (taken : ℕ) (views : List View) → AreViews h.bytes offset views → IsHeld t s first old text views
    → IsCutOff taken text old new → IsFormatted t s (Err Write) h first new
cut_off t s h offset first old new text taken views shown held cut =
    let part = part_of first old new text (asked_text t s views) held.gathered (taken, (cut.part, cut.text)) in
    (omega (arith, held.fine, cut.failed), (offset, (views, record { shown = shown; prefix = inl part })))

pub next_err : (t : Texts) (s : Selection) (r : Result Step SelectFault) (views : List View) (offset : ℕ)
    (before h : BytesRead) (c : CutterState) (first now : BytesWritten) (text added : List ℕ)
    → IsErrAnd r (λ e. e ≡ Memory) → AreViews h.bytes offset views → IsHeld t s first now text views
    → IsNext t s r views before h c first now added
next_err t s r views offset before h c first now text added is shown held =
    let e = err_from_is_err_and r is in rw (e.1, e.2) (cut_short t s h offset first now text views shown held)

pub copied_err : (t : Texts) (s : Selection) (r : Result Selected SelectFault) (Q : SelectFault → Type 0)
    (fault : SelectFault) (h : BytesRead) (old new : BytesWritten) (text : List ℕ) → IsErrAnd r Q
    → ((e : SelectFault) → Q e → e ≡ fault) → IsFormatted t s (Err fault) h old new → IsCopying t s r h old new text
copied_err t s r Q fault h old new text is q shown =
    let e = err_from_is_err_and r is in rw (e.1, q e.0 e.2) shown

-- no memory for the end
pub end_err : (t : Texts) (s : Selection) (r : Result Selected SelectFault) (found : Selected) (h : BytesRead)
    (first new : BytesWritten) (text : List ℕ) (views : List View) → IsErrAnd r (λ e. e ≡ Memory)
    → HasCopied t s found h first new text views → IsFormatted t s r h first new
end_err t s r found h first new text views is copied =
    let e = err_from_is_err_and r is in
    rw (e.1, e.2) (cut_short t s h copied.is_found.all.offset first new text views copied.is_found.all.records
    copied.held)

-- all of it was written
pub written_all : (t : Texts) (s : Selection) (found : Selected) (h : BytesRead) (first old new : BytesWritten)
    (text whole : List ℕ) (views : List View) → HasCopied t s found h first old text views
    → whole ≡ text ++ t.at_end found → new.bytes ≡ old.bytes ++ whole → new.failures ≡ old.failures
    → IsFormatted t s (Ok found) h first new
written_all t s found h first old new text whole views copied e bytes fine =
    let text = all_behind first old new text (asked_text t s views) (t.at_end found) copied.held.gathered
    (rw e at bytes) in
    (views, record { is_found = copied.is_found; text = text; fine = fine ∙ copied.held.fine })

-- a prefix of what was left was written
pub written_short : (t : Texts) (s : Selection) (found : Selected) (h : BytesRead) (first old new : BytesWritten)
    (text whole : List ℕ) (taken : ℕ) (views : List View) → HasCopied t s found h first old text views
    → whole ≡ text ++ t.at_end found → IsCutOff taken whole old new → IsFormatted t s (Err Write) h first new
written_short t s found h first old new text whole taken views copied e cut =
    let part =
    cut_part first old new taken text (asked_text t s views) (t.at_end found) copied.held.gathered
    (rw e at cut) in
    let short : IsWrittenInPart (EmittedPart first new) t s h copied.is_found.all.offset views =
    record { shown = copied.is_found.all.records; prefix = inr (found, (copied.is_found, part)) } in
    (omega (arith, copied.held.fine, cut.failed), (copied.is_found.all.offset, (views, short)))
