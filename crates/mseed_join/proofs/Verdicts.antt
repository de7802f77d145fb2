-- The lines of verdicts, one after another, and the text of an audit that they begin.
use Rattle.std.proofs.Common.{◌≡◌, ℕ, ◌+◌, ◌<◌, ◌++◌, List, [], ◌∷◌, length, map, take, get_or, Option, sym, ap, ◌∙◌}
use Rattle.std.proofs.Common.{append_assoc, append-nil}
use Rattle.std.proofs.lemmas.List.{take_more}
use Rattle.mseed_stream.specs.declared.fault.StreamFault.{StreamFault}
use Rattle.mseed_audit.specs.declared.channel.Channel.{Channel}
use Rattle.mseed_audit.specs.declared.verdict.Verdict.{Verdict}
use Rattle.mseed_audit.specs.Audit.{verdict_of}
use Rattle.mseed_text.specs.Fault.{end_line}
use Rattle.mseed_audit.specs.Text.{total_line, verdict_line, verdict_lines}
use Rattle.mseed_join.specs.Lines.{faults_line}
use Rattle.mseed_join.specs.Joined.{join_text, verdict_at}

lines_snoc : (cs : List (List ℕ × Channel)) (c : List ℕ × Channel)
    → verdict_lines (map verdict_at (cs ++ c ∷ []))
    ≡ verdict_lines (map verdict_at cs) ++ verdict_line c.0 (verdict_of c.1)
lines_snoc [] c = append-nil (verdict_line c.0 (verdict_of c.1))
lines_snoc (d ∷ cs) c = ap (λ (xs : List ℕ). verdict_line d.0 (verdict_of d.1) ++ xs) (lines_snoc cs c)
    ∙ sym (append_assoc (verdict_line d.0 (verdict_of d.1)) (verdict_lines (map verdict_at cs))
    (verdict_line c.0 (verdict_of c.1)))

-- the lines with one more, after some text
pub verdicts_more : (cs : List (List ℕ × Channel)) (n : ℕ) (c : List ℕ × Channel) (v : Verdict)
    (first old new : List ℕ) → n < length cs → c ≡ get_or cs n c → v ≡ verdict_of c.1
    → old ≡ first ++ verdict_lines (map verdict_at (take n cs)) → new ≡ old ++ verdict_line c.0 v
    → new ≡ first ++ verdict_lines (map verdict_at (take (n + 1) cs))
verdicts_more cs n c v first old new h is verdict before one =
    let more = take_more cs n c h ∙ ap (λ (d : List ℕ × Channel). take n cs ++ d ∷ []) (sym is) in
    let lines : verdict_lines (map verdict_at (take (n + 1) cs))
    ≡ verdict_lines (map verdict_at (take n cs)) ++ verdict_line c.0 (verdict_of c.1) =
    ap (λ (ds : List (List ℕ × Channel)). verdict_lines (map verdict_at ds)) more ∙ lines_snoc (take n cs) c in
    one ∙ ap (λ (w : Verdict). old ++ verdict_line c.0 w) verdict
    ∙ ap (λ (xs : List ℕ). xs ++ verdict_line c.0 (verdict_of c.1)) before
    ∙ append_assoc first (verdict_lines (map verdict_at (take n cs))) (verdict_line c.0 (verdict_of c.1))
    ∙ ap (λ (xs : List ℕ). first ++ xs) (sym lines)

-- the text of an audit, in its order
text_joined : (text verdicts total faults end : List ℕ)
    → text ++ verdicts ++ total ++ (faults ++ end) ≡ text ++ (verdicts ++ total ++ faults ++ end)
text_joined text verdicts total faults end = simp append_assoc

pub join_lines : (channels : List (List ℕ × Channel)) (records bytes faults : ℕ) (end : Option StreamFault)
    (text : List ℕ)
    → text ++ verdict_lines (map verdict_at channels) ++ total_line records (length channels)
    ++ (faults_line faults ++ end_line end)
    ≡ text ++ join_text (record {
      part = record { channels = channels; records = records; bytes = bytes };
      faults = faults;
      end = end;
    })
join_lines channels records bytes faults end text =
    text_joined text (verdict_lines (map verdict_at channels)) (total_line records (length channels))
    (faults_line faults) (end_line end)
