-- The first word of a line.
use Rattle.std.proofs.Common.{◌≡◌, ℕ, ◌+◌, ◌-◌, ◌<◌, ◌≤◌, suc, inl, inr, refl, sym, ap, ◌∙◌, arith, not}
use Rattle.std.proofs.Common.{◌==◌, List, [], ◌∷◌, length, take, drop, length-take-le, ◌++◌}
use Rattle.std.specs.List.{filter, slice_split, position_or_len}
use Rattle.std.proofs.Math.Numerals.{one-add}
use Rattle.std.proofs.lemmas.Bool.{ne_eqb}
use Rattle.std.proofs.lemmas.Bool.Decides.{eqb_tells, leb_tells}
use Rattle.std.proofs.lemmas.List.{drop_more, drop_all, take_all, take_rest}
use Rattle.std.proofs.lemmas.List.Sums.{passes_at_first}
use Rattle.std.proofs.lemmas.List.Splits.{slice_split_at, slice_split_none}
use Rattle.slink_wire.specs.Command.{words}
use Rattle.slink_wire.proofs.Cuts.{Lacks, byte_at, each_other, lacks_all, parts_at, place_bound}

abbrev keeps : List (List ℕ) → List (List ℕ)
keeps ws = filter (λ w. not (length w == 0)) ws

-- a space before it says nothing
words_space : (bs : List ℕ) → words (32 ∷ bs) ≡ words bs
unfolding words
words_space bs = refl

words_none : words [] ≡ []
unfolding words
words_none = refl

-- nor do all that stand there
words_spaces : (line : List ℕ) → words (drop (position_or_len (λ b. not (b == 32)) line) line) ≡ words line
words_spaces [] = refl
words_spaces (b ∷ bs) = elim (eqb_tells b 32) [
  | inl space ↦ rw (space.1, one-add) (words_spaces bs ∙ sym (words_space bs))
  | inr other ↦ rw (other.0)
]

-- a word is kept
kept : (w : List ℕ) (ws : List (List ℕ)) → 1 ≤ length w → keeps (w ∷ ws) ≡ w ∷ keeps ws
kept w ws h = rw (ne_eqb (length w) 0 (λ none. omega (arith, none)))

-- a word up to a space, and a last one
pub words_then : (w rest : List ℕ) → 1 ≤ length w → Lacks 32 w → words (w ++ 32 ∷ rest) ≡ w ∷ words rest
unfolding words
words_then w rest h lacks = ap keeps (slice_split_at (λ b. b == 32) w 32 rest (each_other w 32 lacks) refl)
    ∙ kept w (slice_split (λ b. b == 32) rest) h

pub words_last : (w : List ℕ) → 1 ≤ length w → Lacks 32 w → words w ≡ w ∷ []
unfolding words
words_last w h lacks = ap keeps (slice_split_none (λ b. b == 32) w (each_other w 32 lacks)) ∙ kept w [] h

-- what begins with a word: up to the next space
words_word : (rest : List ℕ) (n : ℕ) → n ≡ position_or_len (λ b. b == 32) rest → 1 ≤ n
    → words rest ≡ take n rest ∷ words (drop n rest)
words_word rest n at h = elim (leb_tells (suc n) (length rest)) [
  | inl before ↦
      let parts = parts_at rest 32 n at before.1 in
      let word : words rest ≡ take n rest ∷ words (drop (n + 1) rest) = ap words parts.0
      ∙ words_then (take n rest) _ (rw (length-take-le n rest (omega (arith, before.1))) h) parts.1 in
      word ∙ rw (drop_more rest n 0 before.1, byte_at rest 32 n at before.1, words_space (drop (n + 1) rest))
  | inr all ↦
      let end : n ≡ length rest = omega (arith, at, all.1, place_bound (λ b. b == 32) rest) in
      rw (take_all n rest (omega (arith, end)), drop_all n rest (omega (arith, end)), words_none)
      (words_last rest (omega (arith, end)) (lacks_all rest 32 n at end))
]

pub no_word : (line : List ℕ) (start : ℕ) → start ≡ position_or_len (λ b. not (b == 32)) line → start ≡ length line
    → words line ≡ []
no_word line start at end =
    sym (words_spaces line) ∙ rw (← at, drop_all start line (omega (arith, end))) words_none

-- no space begins what stands after the spaces
begins : (line : List ℕ) (start : ℕ) → start ≡ position_or_len (λ b. not (b == 32)) line → start < length line
    → 1 ≤ position_or_len (λ b. b == 32) (drop start line)
begins line start at lt =
    let here = rw (← at) at (passes_at_first (λ b. not (b == 32)) line 0 (omega arith)) in
    rw (drop_more line start 0 lt, here) (omega arith)

pub first_is : (line rest : List ℕ) (start end : ℕ) → start ≡ position_or_len (λ b. not (b == 32)) line
    → start < length line → rest ≡ take (length line - start) (drop start line)
    → end ≡ position_or_len (λ b. b == 32) rest
    → words line ≡ take end rest ∷ words (take (length rest - end) (drop end rest))
first_is line rest start end at lt is upto =
    let whole : rest ≡ drop start line = is ∙ take_rest line start in
    let some : 1 ≤ position_or_len (λ b. b == 32) rest = rw whole (begins line start at lt) in
    sym (words_spaces line) ∙ rw (← at, ← whole, take_rest rest end) (words_word rest end upto (omega arith))
