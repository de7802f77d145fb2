-- Verdicts and texts, one after another.
use Rattle.std.proofs.Common.{◌≡◌, ℕ, ◌+◌, ◌<◌, ◌++◌, List, [], ◌∷◌, length, take, get_or, if◌then◌else◌, refl, sym, ap}
use Rattle.std.proofs.Common.{◌∙◌, append_assoc, append-nil, arith}
use Rattle.std.proofs.lemmas.List.{take_more}
use Rattle.mseed_audit.specs.declared.verdict.Verdict.{Verdict}
use Rattle.mseed_audit.specs.declared.verdict.Verdict.TheVariants.{Continuous, Broken}
use Rattle.mseed_audit.specs.Text.{verdict_line, verdict_lines}
use Rattle.mseed_audit.specs.Verdict.{says_continuous}
use Rattle.mseed_audit.specs.Summary.{broken_count}

-- a text that was put after another
pub put_more : (line before after text more : List ℕ) → before ≡ line ++ text → after ≡ before ++ more
    → after ≡ line ++ (text ++ more)
put_more line before after text more is next =
    next ∙ (ap (λ (xs : List ℕ). xs ++ more) is ∙ append_assoc line text more)

-- the prefix with one more
pub prefix_more : {X : Type 0} (vs : List X) (n : ℕ) (v : X) → n < length vs → v ≡ get_or vs n v
    → take (n + 1) vs ≡ take n vs ++ v ∷ []
prefix_more vs n v h is = take_more vs n v h ∙ ap (λ w. take n vs ++ w ∷ []) (sym is)

-- lines with one more, after some text
pub text_more : {X : Type 0} (line : X → List ℕ) (lines : List X → List ℕ)
    → ((vs : List X) (v : X) → lines (vs ++ v ∷ []) ≡ lines vs ++ line v)
    → (vs : List X) (n : ℕ) (v : X) (first old new : List ℕ) → n < length vs → v ≡ get_or vs n v
    → old ≡ first ++ lines (take n vs) → new ≡ old ++ line v → new ≡ first ++ lines (take (n + 1) vs)
text_more line lines snoc vs n v first old new h is before one =
    one ∙ ap (λ (xs : List ℕ). xs ++ line v) before ∙ append_assoc first (lines (take n vs)) (line v)
    ∙ ap (λ (xs : List ℕ). first ++ xs) (sym (ap lines (prefix_more vs n v h is) ∙ snoc (take n vs) v))

pub lines_snoc : (vs : List (List ℕ × Verdict)) (v : List ℕ × Verdict)
    → verdict_lines (vs ++ v ∷ []) ≡ verdict_lines vs ++ verdict_line v.0 v.1
lines_snoc [] v = append-nil (verdict_line v.0 v.1)
lines_snoc (w ∷ vs) v = ap (λ (xs : List ℕ). verdict_line w.0 w.1 ++ xs) (lines_snoc vs v)
    ∙ sym (append_assoc (verdict_line w.0 w.1) (verdict_lines vs) (verdict_line v.0 v.1))

pub count_snoc : (vs : List (List ℕ × Verdict)) (v : List ℕ × Verdict)
    → broken_count (vs ++ v ∷ []) ≡ broken_count vs + (if says_continuous v.1 then 0 else 1)
count_snoc [] (key, Continuous start rate records samples) = refl
count_snoc [] (key, Broken first count) = refl
count_snoc ((key, Continuous start rate records samples) ∷ vs) v = count_snoc vs v
count_snoc ((key, Broken first count) ∷ vs) v = omega (arith, count_snoc vs v)
