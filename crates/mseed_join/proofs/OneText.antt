-- Texts of parts are read in one way.
use Rattle.std.proofs.Common.{arith}
use Rattle.std.proofs.Common.{◌≡◌, ℕ, List, [], ◌∷◌, refl, sym, ap, ◌∙◌, subst}
use Rattle.mseed_join.specs.Lines.{Line}
use Rattle.mseed_join.specs.Reached.{Stage, parts_at, start}
use Rattle.mseed_join.specs.Written.{Written, Spells}
use Rattle.mseed_join.specs.private.Steps.{to}
use Rattle.mseed_join.proofs.Machine.{AreAll, Runs, all_rows, first_same, lines_text, nothing_first, texts_all}
use Rattle.mseed_join.proofs.Machine.{texts_are}
use Rattle.mseed_join.proofs.Running.{all_run}

-- lines one after another
lines_one : (xs ys : List Line) → AreAll xs → AreAll ys → lines_text xs ≡ lines_text ys → xs ≡ ys
lines_one [] [] p q e = refl
lines_one [] (y ∷ ys) p q e = absurd (nothing_first y (lines_text ys) q.0 (sym e))
lines_one (x ∷ xs) [] p q e = absurd (nothing_first x (lines_text xs) p.0 e)
lines_one (x ∷ xs) (y ∷ ys) p q e =
    let both = first_same x y (lines_text xs) (lines_text ys) p.0 q.0 e in
    let more : xs ≡ ys = lines_one xs ys p.1 q.1 both.1 in
    λ i. both.0 i ∷ more i

-- go to one stage
runs_one : (s t u : Stage) (xs : List Line) → Runs s xs t → Runs s xs u → t ≡ u
runs_one s t u [] a b = sym a ∙ b
runs_one s t u (x ∷ xs) a b = runs_one (to s x) t u xs a.1 b.1

-- and bytes are the texts of one list of parts
pub text_one : (bytes : List ℕ) (ws vs : List Written) → Spells bytes ws → Spells bytes vs → ws ≡ vs
text_one bytes ws vs p q =
    let same : all_rows ws ≡ all_rows vs = search (arith, lines_one, texts_all, texts_are) in
    let a = all_run ws p.each in
    let b = all_run vs q.each in
    sym a.1.1
    ∙ ap parts_at (runs_one start a.0 b.0 (all_rows vs) (subst (λ (xs : List Line). Runs start xs a.0) same a.1.0)
    b.1.0)
    ∙ b.1.1
