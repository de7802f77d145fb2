-- Where a text is cut at its first separator.
use Rattle.std.proofs.Common.{◌≡◌, ℕ, ◌+◌, ◌-◌, ◌<◌, suc, arith, Bool, false}
use Rattle.std.proofs.Common.{List, [], ◌∷◌, length, take, drop, inl, inr, Some, None}
use Rattle.std.specs.List.{position, position_or_len, slice_split}
use Rattle.std.proofs.lemmas.List.Splits.{slice_split_first, slice_split_none}
use Rattle.std.proofs.lemmas.List.Sums.{fails_before_first}
use Rattle.std.proofs.lemmas.List.Elements.{All-from_get_or}
use Rattle.std.proofs.lemmas.Bool.Decides.{leb_tells}
use Rattle.std.proofs.lemmas.List.{take_rest}

-- the first part ends at a place
pub part_at : (p : ℕ → Bool) (xs : List ℕ) (n : ℕ) → position p xs ≡ Some n
    → (n < length xs) × (slice_split p xs ≡ take n xs ∷ slice_split p (drop (n + 1) xs))
part_at p xs n e = elim (leb_tells (suc (position_or_len p xs)) (length xs)) [
  | inl lt ↦
      let at : position_or_len p xs ≡ n = cc (rw lt.0 at e) in
      rw (← at) (omega (arith, lt.1), slice_split_first p xs 0 (omega (arith, lt.1)))
  | inr ge ↦ absurd (let none = rw ge.0 at e in cc none)
]

-- the same, as a slice is cut
pub part_cut : (p : ℕ → Bool) (xs : List ℕ) (n : ℕ) → position p xs ≡ Some n
    → slice_split p xs ≡ take n xs ∷ slice_split p (take (length xs - (n + 1)) (drop (n + 1) xs))
part_cut p xs n e = rw (take_rest xs (n + 1)) (part_at p xs n e).1

-- there is one part
pub part_alone : (p : ℕ → Bool) (xs : List ℕ) → position p xs ≡ None → slice_split p xs ≡ xs ∷ []
part_alone p xs e = elim (leb_tells (suc (position_or_len p xs)) (length xs)) [
  | inl lt ↦ absurd (let some = rw lt.0 at e in cc some)
  | inr ge ↦ slice_split_none p xs (All-from_get_or (λ (x : ℕ). p x ≡ false) xs 0
      (λ i h. fails_before_first p xs i 0 (omega (arith, h, ge.1))))
]
