-- The table of two digits.
use Rattle.std.proofs.Common.{◌≡◌, ℕ, zero, suc, ◌+◌, ◌-◌, ◌*◌, ◌/◌, ◌%◌, ◌<◌, Bool, true, ◌&&◌, T, eqb, eqb→eq}
use Rattle.std.proofs.Common.{[], ◌∷◌, get_or, inl, inr, refl, arith, eq-zero-or-pos}
use lib.Ieee.Fits.{and_l, and_r}
use Rattle.mseed_time.specs.declared.show.TheConstants.{DIGITS}
use Rattle.mseed_time.specs.Text.{padded_decimal}

-- the first n numbers stand there
abbrev are_digits : ℕ → Bool
are_digits zero = true
are_digits (suc n) =
    (eqb (get_or DIGITS (2 * n) 0) (48 + n / 10 % 10) && eqb (get_or DIGITS (2 * n + 1) 0) (48 + n % 10))
    && are_digits n

below : (count n : ℕ) → T (are_digits count) → n < count
    → (get_or DIGITS (2 * n) 0 ≡ 48 + n / 10 % 10) × (get_or DIGITS (2 * n + 1) 0 ≡ 48 + n % 10)
below zero n t h = absurd (omega arith)
below (suc count) n t h =
    let here = and_l _ (are_digits count) t in
    elim (eq-zero-or-pos (count - n)) [
      | inl z ↦
          let last : n ≡ count = omega arith in
          rw last (eqb→eq _ _ (and_l _ _ here), eqb→eq _ _ (and_r _ _ here))
      | inr g ↦ below count n (and_r _ (are_digits count) t) (omega arith)
    ]

pub digits_at : (n : ℕ) → n < 100
    → get_or DIGITS (2 * n) 0 ∷ get_or DIGITS (2 * n + 1) 0 ∷ [] ≡ padded_decimal 2 n
digits_at n h =
    let both = below 100 n tt h in
    let ones : n / 1 % 10 ≡ n % 10 = omega arith in
    rw (both.0, both.1, ones) refl
