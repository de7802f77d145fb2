-- The parts of a text, put together and taken apart.
use Rattle.std.proofs.Common.{◌≡◌, ℕ, suc, ◌≤◌, refl, sym, ap, ◌∙◌, arith, false, eqb, List, [], ◌∷◌}
use Rattle.std.proofs.Common.{◌++◌, length, get_or, inl, inr, take}
use Rattle.std.proofs.lemmas.List.{append_cancel_left, get_or_past, length-append, take_at}
use Rattle.std.proofs.lemmas.Bool.Decides.{leb_tells}
use Rattle.std.specs.List.{join_with_byte, slice_split}
use Rattle.std.proofs.lemmas.List.Splits.{join_with_byte-slice_split, slice_split_at, slice_split_none}
use Rattle.std.proofs.lemmas.Bool.Decides.{nat_tests}
use Rattle.mseed_select.proofs.Padded.{Lacks}

-- ---- put together
pub one_part : (c : ℕ) (a : List ℕ) → Lacks c a → slice_split (λ (x : ℕ). eqb x c) a ≡ a ∷ []
one_part c a none = slice_split_none (λ (x : ℕ). eqb x c) a none

pub next_part : (c : ℕ) (a b : List ℕ) → Lacks c a
    → slice_split (λ (x : ℕ). eqb x c) (a ++ c ∷ b) ≡ a ∷ slice_split (λ (x : ℕ). eqb x c) b
next_part c a b none = slice_split_at (λ (x : ℕ). eqb x c) a c b none (grind (arith, nat_tests))

pub two_parts : (c : ℕ) (a b : List ℕ) → Lacks c a → Lacks c b
    → slice_split (λ (x : ℕ). eqb x c) (a ++ c ∷ b) ≡ a ∷ b ∷ []
two_parts c a b one two = next_part c a b one ∙ ap (λ (ps : List (List ℕ)). a ∷ ps) (one_part c b two)

pub three_parts : (c : ℕ) (a b d : List ℕ) → Lacks c a → Lacks c b → Lacks c d
    → slice_split (λ (x : ℕ). eqb x c) (a ++ c ∷ (b ++ c ∷ d)) ≡ a ∷ b ∷ d ∷ []
three_parts c a b d one two three =
    next_part c a (b ++ c ∷ d) one ∙ ap (λ (ps : List (List ℕ)). a ∷ ps) (two_parts c b d two three)

-- ---- taken apart
pub joined : (c : ℕ) (text : List ℕ) (parts : List (List ℕ)) → slice_split (λ (x : ℕ). eqb x c) text ≡ parts
    → text ≡ join_with_byte c parts
joined c text parts e =
    sym (join_with_byte-slice_split c text) ∙ ap (λ (ps : List (List ℕ)). join_with_byte c ps) e

-- what stands behind a known beginning
pub record IsBehind (front behind whole rest : List ℕ) (middle : List ℕ) : Type 0 where
  pub whole_is : whole ≡ front ++ middle
  pub rest_is : middle ++ rest ≡ behind

pub cut_after : (front behind whole rest : List ℕ) → whole ++ rest ≡ front ++ behind → length front ≤ length whole
    → (middle : List ℕ) × IsBehind front behind whole rest middle
cut_after [] behind whole rest e h = (whole, record { whole_is = refl; rest_is = e })
cut_after (f ∷ fs) behind [] rest e h = absurd (omega (arith, h))
cut_after (f ∷ fs) behind (w ∷ ws) rest e h =
    let first : w ≡ f = cc in
    let others : ws ++ rest ≡ fs ++ behind = cc in
    let more = cut_after fs behind ws rest others (omega (arith, h)) in
    (more.0, record { whole_is = λ i. first i ∷ more.1.whole_is i; rest_is = more.1.rest_is })

-- the beginning and the end are these, where the ends are equally long
pub exactly : (front behind whole rest : List ℕ) → whole ++ rest ≡ front ++ behind → length rest ≡ length behind
    → (whole ≡ front) × (rest ≡ behind)
exactly front behind whole rest e same =
    let long : length whole ≡ length front =
    omega (arith, same, ap (λ (xs : List ℕ). length xs) e, length-append whole rest, length-append front behind) in
    let first : whole ≡ front = sym (take_at whole rest (length front) long)
    ∙ (ap (take (length front)) e ∙ take_at front behind (length front) refl) in
    (first, append_cancel_left front rest behind (rw first at e))

-- a text that lacks a character has it nowhere
pub lacks_at : (c : ℕ) (text : List ℕ) (i : ℕ) → 1 ≤ c → Lacks c text → eqb (get_or text i 0) c ≡ false
lacks_at c text i some none = elim (leb_tells (suc i) (length text)) [
  | inl lt ↦ none i 0 (omega (arith, lt.1))
  | inr ge ↦ rw (get_or_past text i 0 (omega (arith, ge.1))) (grind (arith, nat_tests, some))
]
