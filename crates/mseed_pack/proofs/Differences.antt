-- The differences of a series, one by one.
use Rattle.std.proofs.Common.{inl, inr}
use Rattle.std.proofs.Common.{◌≡◌, ◌≢◌, ◌∙◌, ℕ, zero, suc, ◌+◌, ◌-◌, ◌<◌, List, [], ◌∷◌, length, get_or, set, refl}
use Rattle.std.proofs.Common.{sym, ap, take, drop, All, arith, ℤ, pos, ◌-ℤ◌}
use Rattle.std.specs.Prelude.{slice_range}
use Rattle.std.proofs.lemmas.Bool.{cases_eq}
use Rattle.std.proofs.lemmas.Int.{ints}
use Rattle.std.proofs.lemmas.List.{get_or-set_other, get_or-set_same}
use Rattle.std.proofs.lemmas.List.Elements.{All-get_or}
use Rattle.mseed_steim.specs.Spelling.{IsWithin}
use Rattle.mseed_steim.specs.Samples.{differences_from}
use Rattle.mseed_pack.specs.private.KnownSamples.{sample_before}
use Rattle.mseed_pack.specs.Stretches.{differences}

from_at : (before : ℤ) (xs : List ℤ) (i : ℕ) → i < length xs
    → get_or (differences_from before xs) i (pos 0) ≡ get_or xs i (pos 0) -ℤ get_or (before ∷ xs) i (pos 0)
from_at before [] i h = absurd (omega (arith, h))
from_at before (x ∷ xs) zero h = refl
from_at before (x ∷ xs) (suc i) h = from_at x xs i (omega (arith, h))

pub differences_are : (xs : List ℤ) → differences xs ≡ differences_from (get_or xs 0 (pos 0)) xs
differences_are [] = refl
differences_are (x ∷ xs) = let none : pos 0 ≡ x -ℤ x = omega (arith, ints) in
    ap (λ (z : ℤ). z ∷ differences_from x xs) none

pub difference_at : (xs : List ℤ) (i : ℕ) → i < length xs
    → get_or (differences xs) i (pos 0) ≡ get_or xs i (pos 0) -ℤ sample_before xs i
difference_at xs zero h = rw differences_are (from_at (get_or xs 0 (pos 0)) xs zero h)
difference_at xs (suc i) h = let before : suc i - 1 ≡ i = omega arith in
    rw (differences_are, before) (from_at (get_or xs 0 (pos 0)) xs (suc i) h)

pub first_difference : (xs : List ℤ) → get_or (differences xs) 0 (pos 0) ≡ pos 0
first_difference [] = refl
first_difference (x ∷ xs) = refl

length_from : (before : ℤ) (xs : List ℤ) → length (differences_from before xs) ≡ length xs
length_from before [] = refl
length_from before (x ∷ xs) = ap (λ (n : ℕ). suc n) (length_from x xs)

pub length-differences : (xs : List ℤ) → length (differences xs) ≡ length xs
length-differences xs = rw differences_are (length_from (get_or xs 0 (pos 0)) xs)

from_take : (before : ℤ) (xs : List ℤ) (n : ℕ)
    → take n (differences_from before xs) ≡ differences_from before (take n xs)
from_take before xs zero = refl
from_take before [] (suc n) = refl
from_take before (x ∷ xs) (suc n) = ap (λ (ds : List ℤ). (x -ℤ before) ∷ ds) (from_take x xs n)

from_drop : (before : ℤ) (xs : List ℤ) (n : ℕ)
    → drop n (differences_from before xs) ≡ differences_from (get_or (before ∷ xs) n (pos 0)) (drop n xs)
from_drop before xs zero = refl
from_drop before [] (suc n) = refl
from_drop before (x ∷ xs) (suc n) = from_drop x xs n

pub drop_differences : (xs : List ℤ) (n : ℕ)
    → drop n (differences xs) ≡ differences_from (sample_before xs n) (drop n xs)
drop_differences xs zero = differences_are xs
drop_differences xs (suc n) = let before : suc n - 1 ≡ n = omega arith in
    rw (differences_are, before) (from_drop (get_or xs 0 (pos 0)) xs (suc n))

-- those of some samples, the first of them from the sample before it
pub part_differences : (xs : List ℤ) (first end : ℕ)
    → differences_from (sample_before xs first) (slice_range xs first end) ≡ slice_range (differences xs) first end
part_differences xs first end =
    sym (from_take (sample_before xs first) (drop first xs) (end - first))
    ∙ ap (λ (ds : List ℤ). take (end - first) ds) (sym (drop_differences xs first))

pub difference_fits : (xs : List ℤ) (i : ℕ) → i < length xs → All (IsWithin 32) (differences xs)
    → IsWithin 32 (get_or (differences xs) i (pos 0))
difference_fits xs i inside all =
    All-get_or (IsWithin 32) (differences xs) i (pos 0) (omega (arith, inside, length-differences xs)) all

-- one of them is put into a list, where others stand
pub put_one : (ds xs : List ℤ) (first i : ℕ) (z : ℤ) → i < length xs → z ≡ get_or ds (first + i) (pos 0) → (k : ℕ)
    → (k ≢ i → get_or xs k (pos 0) ≡ get_or ds (first + k) (pos 0))
    → get_or (set xs i z) k (pos 0) ≡ get_or ds (first + k) (pos 0)
put_one ds xs first i z inside is k others = elim (cases_eq k i) [
  | inl same ↦ rw (same, get_or-set_same xs i z (pos 0) inside) is
  | inr other ↦ rw (get_or-set_other xs i k z (pos 0) other) (others other)
]
