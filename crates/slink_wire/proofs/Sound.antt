-- Each line that is spelled is one that a stream has as it stands.
use Rattle.std.proofs.Common.{◌≡◌, ℕ, ◌≤◌, ◌≢◌, inl, inr, refl, arith, Bool, true, false, not, ◌==◌, List}
use Rattle.std.proofs.Common.{[], ◌∷◌, ◌++◌, length}
use Rattle.std.specs.List.{list_all}
use Rattle.std.proofs.lemmas.Bool.{and_parts, ltb-false, ne_eqb}
use Rattle.std.proofs.lemmas.Bool.Decides.{eqb_tells}
use Rattle.std.proofs.lemmas.List.Folds.{list_all-append}
use Rattle.slink_wire.specs.Lines.{Spelled, lines_of, stripped, unless_empty}
use Rattle.slink_wire.specs.Written.{AreLines}
use Rattle.slink_wire.proofs.Cuts.{Lacks}
use Rattle.slink_wire.proofs.Spelled.{checked, continued, ended, kept_on, stripped_twice}

-- what is there of a line
pub record IsBegun (line : List ℕ) : Type 0 where
  pub short : length line ≤ 255
  pub no_cr : Lacks 13 line
  pub no_lf : stripped line ≡ line

abbrev pub IsSound : Spelled → Type 0
IsSound s = AreLines s.lines × IsBegun s.begun

none_begun : IsBegun []
none_begun = record { short = omega arith; no_cr = refl; no_lf = refl }

begun_line : (line : List ℕ) → IsBegun line → AreLines (unless_empty line)
begun_line [] is = tt
begun_line (b ∷ bs) is =
    (record { some = omega arith; short = is.short; no_cr = is.no_cr; no_lf = is.no_lf }, tt)

lines_both : (xs ys : List (List ℕ)) → AreLines xs → AreLines ys → AreLines (xs ++ ys)
lines_both [] ys p q = q
lines_both (x ∷ xs) ys p q = (p.0, lines_both xs ys p.1 q)

ended_sound : (t : Bool) (lines : List (List ℕ)) (line : List ℕ) → AreLines lines → IsBegun line
    → IsSound (ended lines line t)
ended_sound true lines line are is = (are, is)
ended_sound false lines line are is = (lines_both lines _ are (begun_line line is), none_begun)

stripped_lacks : (piece : List ℕ) → Lacks 13 piece → Lacks 13 (stripped piece)
stripped_lacks [] h = refl
stripped_lacks (x ∷ xs) h = elim (eqb_tells x 10) [
  | inl lf ↦ rw (lf.0) (stripped_lacks xs (and_parts (not (x == 13)) (list_all (λ b. not (b == 13)) xs) h).1)
  | inr other ↦ rw (other.0) h
]

checked_sound : (t : Bool) (lines : List (List ℕ)) (line : List ℕ) → AreLines lines → (t ≡ false → IsBegun line)
    → IsSound (checked lines line t)
checked_sound true lines line are is = (are, none_begun)
checked_sound false lines line are is = (are, is refl)

continued_sound : (b : ℕ) (t : Bool) (lines : List (List ℕ)) (line : List ℕ) → b ≢ 13 → AreLines lines → IsBegun line
    → IsSound (continued b lines line t)
continued_sound b true lines line other are is = (are, is)
continued_sound b false lines line other are is = checked_sound _ lines _ are (λ fits. record {
  short = ltb-false 255 _ fits;
  no_cr = stripped_lacks (line ++ b ∷ []) (simp (list_all-append, is.no_cr) (rw (ne_eqb b 13 other)));
  no_lf = stripped_twice (line ++ b ∷ []);
})

none_sound : IsSound (lines_of [])
unfolding lines_of
none_sound = (tt, none_begun)

pub sound : (stream : List ℕ) → IsSound (lines_of stream)
sound stream = kept_on IsSound (λ s h. ended_sound s.is_too_long s.lines s.begun h.0 h.1)
    (λ b s other h. continued_sound b s.is_too_long s.lines s.begun other h.0 h.1) [] stream none_sound

pub spelled_lines : (stream : List ℕ) → AreLines (lines_of stream).lines
spelled_lines stream = (sound stream).0
