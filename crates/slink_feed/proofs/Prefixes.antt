-- The elements of a list, by their indices.
use Rattle.std.proofs.Common.{◌≡◌, ℕ, ◌+◌, ◌-◌, ◌<◌, ◌≤◌, zero, suc, refl, ap, ◌∙◌, arith, List, [], ◌∷◌, ◌++◌}
use Rattle.std.proofs.Common.{append_assoc, length, take, take-add, drop, length-drop, Some, slice_get}
use Rattle.std.proofs.lemmas.List.{take_rest}

module _ {X : Type 0} where
  pub get_left : (xs ys : List X) (i : ℕ) → i < length xs → slice_get (xs ++ ys) i ≡ slice_get xs i
  get_left [] ys i lt = absurd (omega (arith, lt))
  get_left (x ∷ xs) ys zero lt = refl
  get_left (x ∷ xs) ys (suc i) lt = get_left xs ys i (omega (arith, lt))

pub get_here : (xs ys : List ℕ) (y : ℕ) → slice_get (xs ++ y ∷ ys) (length xs) ≡ Some y
get_here [] ys y = refl
get_here (x ∷ xs) ys y = get_here xs ys y

-- what was taken in two parts
pub emitted_more : (start kept new bytes : List ℕ) (used m : ℕ) → kept ≡ start ++ take used bytes
    → new ≡ kept ++ take m (take (length bytes - used) (drop used bytes)) → new ≡ start ++ take (used + m) bytes
emitted_more start kept new bytes used m before more =
    more ∙ rw (before, take_rest bytes used, take-add used m bytes)
    (append_assoc start (take used bytes) (take m (drop used bytes)))

-- so many of those that are left are within all
pub within_more : (bytes : List ℕ) (used more : ℕ) → used ≤ length bytes
    → more ≤ length (take (length bytes - used) (drop used bytes)) → used + more ≤ length bytes
within_more bytes used more within bound =
    omega (arith, within, bound, ap length (take_rest bytes used), length-drop used bytes)
