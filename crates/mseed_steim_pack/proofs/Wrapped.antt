-- Differences of samples as far as 32 bits hold them: how many, one by one, of a part, and where they are held whole.
use Rattle.std.proofs.Common.{◌≡◌, ◌∙◌, ◌<◌, ◌≤◌, ℕ, zero, suc, ℤ, pos, ◌-ℤ◌, List, [], ◌∷◌, length, take, drop}
use Rattle.std.proofs.Common.{◌+◌, ◌-◌, add-one, get_or, refl, ap, arith, All, w32}
use Rattle.std.specs.Int.{int_wrap}
use Rattle.std.proofs.lemmas.Int.{int_wrap_fits, to_z-of_z, wrapping_sub-bits}
use Rattle.std.proofs.Common.{FitsSigned, of_z, rules, to_z, ◌%◌}
use Rattle.std.proofs.lemmas.List.{drop_more, length-take-le}
use Rattle.std.proofs.lemmas.List.Elements.{All-head, All-tail}
use Rattle.mseed_steim.specs.Samples.{differences_from}
use Rattle.mseed_steim.specs.Spelling.{IsWithin}
use Rattle.mseed_steim_pack.proofs.Bits.{within_fits}
use Rattle.mseed_steim_pack.specs.private.Wrapped.{between, wrapped_from}

pub wrapped_length : (before : ℤ) (xs : List ℤ) → length (wrapped_from before xs) ≡ length xs
wrapped_length before [] = refl
wrapped_length before (x ∷ xs) = ap (λ (n : ℕ). suc n) (wrapped_length x xs)

pub wrapped_at : (before : ℤ) (xs : List ℤ) (i : ℕ) → i < length xs
    → get_or (wrapped_from before xs) i (pos 0) ≡ int_wrap w32 (get_or xs i (pos 0) -ℤ get_or (before ∷ xs) i (pos 0))
wrapped_at before [] i h = absurd (omega (arith, h))
wrapped_at before (x ∷ xs) zero h = refl
wrapped_at before (x ∷ xs) (suc i) h = wrapped_at x xs i (omega (arith, h))

pub wrapped_take : (n : ℕ) (before : ℤ) (xs : List ℤ)
    → wrapped_from before (take n xs) ≡ take n (wrapped_from before xs)
wrapped_take zero before xs = refl
wrapped_take (suc n) before [] = refl
wrapped_take (suc n) before (x ∷ xs) = ap (λ (ds : List ℤ). int_wrap w32 (x -ℤ before) ∷ ds) (wrapped_take n x xs)

-- so many that were written first are the first of all
pub first_written : (n : ℕ) (before : ℤ) (xs ds : List ℤ) → n ≤ length xs
    → take (length (take n xs)) ds ≡ wrapped_from before (take n xs) → take n ds ≡ take n (wrapped_from before xs)
first_written n before xs ds inside put = search (arith, length-take-le, wrapped_take)

pub wrapped_drop : (n : ℕ) (before : ℤ) (xs : List ℤ) → n ≤ length xs
    → wrapped_from (get_or (before ∷ xs) n (pos 0)) (drop n xs) ≡ drop n (wrapped_from before xs)
wrapped_drop zero before xs h = refl
wrapped_drop (suc n) before [] h = absurd (omega (arith, h))
wrapped_drop (suc n) before (x ∷ xs) h = wrapped_drop n x xs (omega (arith, h))

pub wrapped_whole : (before : ℤ) (xs : List ℤ) → All (IsWithin 32) (differences_from before xs)
    → wrapped_from before xs ≡ differences_from before xs
wrapped_whole before [] all = refl
wrapped_whole before (x ∷ xs) all =
    let rest = differences_from x xs in
    let fits = within_fits (x -ℤ before) (All-head (IsWithin 32) (x -ℤ before) rest all) in
    let later = wrapped_whole x xs (All-tail (IsWithin 32) (x -ℤ before) rest all) in
    rw (int_wrap_fits w32 (x -ℤ before) fits, later) refl

-- the difference of two numbers of 32 bits, by their bits
pub wrapped_bits : (x y : ℤ) → FitsSigned w32 x → FitsSigned w32 y
    → to_z w32 ((of_z w32 x + (4294967296 - of_z w32 y)) % 4294967296) ≡ int_wrap w32 (x -ℤ y)
wrapped_bits x y f g = wrapping_sub-bits w32 (of_z w32 x) (of_z w32 y) (search rules) (search rules)
    ∙ rw (to_z-of_z w32 x f, to_z-of_z w32 y g) refl

-- ---- between the neighbours of a list
pub between_length : (xs : List ℤ) → length (between xs) ≡ length xs - 1
between_length xs = search (arith, wrapped_length)

pub between_at : (xs : List ℤ) (i : ℕ) → i < length (between xs)
    → get_or (between xs) i (pos 0) ≡ int_wrap w32 (get_or xs (i + 1) (pos 0) -ℤ get_or xs i (pos 0))
between_at xs i h = search (arith, add-one, wrapped_at, wrapped_length)

-- those from a place on, after the first, stand between the neighbours from the place before it
pub between_from : (before : ℤ) (xs : List ℤ) (from : ℕ) → 0 < from → from ≤ length xs
    → between (drop (from - 1) xs) ≡ drop from (wrapped_from before xs)
between_from before xs from some inside =
    let i = from - 1 in
    let place : i + 1 ≡ from = omega (arith, some) in
    let last : get_or (before ∷ xs) (i + 1) (pos 0) ≡ get_or xs i (pos 0) = rw add-one refl in
    rw (drop_more xs i (pos 0) (omega (arith, some, inside)), ← last, place) (wrapped_drop from before xs inside)
