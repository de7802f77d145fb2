-- The pieces of a list that is cut at each element that passes a test, with one element more.
use Rattle.std.proofs.Common.{◌≡◌, ℕ, ◌≤◌, refl, arith, Bool, true, false, cond, List, [], ◌∷◌, ◌++◌, length}
use Rattle.std.specs.List.{slice_split, onto_first}
use Rattle.std.proofs.lemmas.List.Splits.{length-slice_split}

-- put after the last piece
abbrev pub onto_last : ℕ → List (List ℕ) → List (List ℕ)
onto_last x [] = (x ∷ []) ∷ []
onto_last x (p ∷ []) = (p ++ x ∷ []) ∷ []
onto_last x (p ∷ q ∷ ps) = p ∷ onto_last x (q ∷ ps)

pub has_piece : (p : ℕ → Bool) (xs : List ℕ) → 1 ≤ length (slice_split p xs)
has_piece p xs = omega (arith, length-slice_split p xs)

there_more : (t : Bool) (x : ℕ) (ps : List (List ℕ)) → 1 ≤ length ps
    → cond t ([] ∷ (ps ++ [] ∷ [])) (onto_first x (ps ++ [] ∷ [])) ≡ cond t ([] ∷ ps) (onto_first x ps) ++ [] ∷ []
there_more true x ps some = refl
there_more false x [] some = absurd (omega arith)
there_more false x (p ∷ ps) some = refl

-- an element that passes begins a piece
pub split_there : (p : ℕ → Bool) (xs : List ℕ) (y : ℕ) → p y ≡ true
    → slice_split p (xs ++ y ∷ []) ≡ slice_split p xs ++ [] ∷ []
split_there p [] y h = rw h
split_there p (x ∷ xs) y h = rw (split_there p xs y h) (there_more (p x) x (slice_split p xs) (has_piece p xs))

on_more : (t : Bool) (x y : ℕ) (ps : List (List ℕ)) → 1 ≤ length ps
    → cond t ([] ∷ onto_last y ps) (onto_first x (onto_last y ps)) ≡ onto_last y (cond t ([] ∷ ps) (onto_first x ps))
on_more t x y [] some = absurd (omega arith)
on_more true x y (p ∷ ps) some = refl
on_more false x y (p ∷ []) some = refl
on_more false x y (p ∷ q ∷ ps) some = refl

-- another goes on the last one
pub split_on : (p : ℕ → Bool) (xs : List ℕ) (y : ℕ) → p y ≡ false
    → slice_split p (xs ++ y ∷ []) ≡ onto_last y (slice_split p xs)
split_on p [] y h = rw h
split_on p (x ∷ xs) y h = rw (split_on p xs y h) (on_more (p x) x y (slice_split p xs) (has_piece p xs))
