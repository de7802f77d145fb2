-- What a miss means.
use Rattle.std.proofs.Common.{◌≡◌, ◌*◌, ◌^◌, ◌≤◌, arith, ℤ, pos, negsuc, neg_ℤ, ◌-ℤ◌, ◌*ℤ◌, ◌≤ℤ◌}
use Rattle.std.proofs.Common.{ℕ, suc, to_z}
use Rattle.std.proofs.Common.{of_z}
use mir.Syntax.{w32, w64, w128}
use Rattle.std.proofs.Common.{Fits, FitsSigned, refl}
use Rattle.std.proofs.lemmas.Int.{ints, to_z-of_z}
use Rattle.std.proofs.lemmas.Nat.{mul-le}

-- a difference that fits
pub difference : (a d : ℤ) → neg_ℤ (pos (2 ^ 95)) ≤ℤ a → a ≤ℤ pos (2 ^ 95) → pos 0 ≤ℤ d → d ≤ℤ pos (2 ^ 110)
    → to_z w128 (of_z w128 (to_z w128 (of_z w128 a) -ℤ to_z w128 (of_z w128 d))) ≡ a -ℤ d
difference a d l h m k = omega (arith, ints)

-- how far a product can be from none
most : (m n : ℕ) → m ≤ 2 ^ 63 → Fits w32 n → m * n ≤ 2 ^ 95
most m n h f =
    let short : n ≤ 2 ^ 32 = omega (arith, f) in
    mul-le m n (2 ^ 63) (2 ^ 32) h short

pub product_low : (a : ℤ) (n : ℕ) → FitsSigned w64 a → Fits w32 n → neg_ℤ (pos (2 ^ 95)) ≤ℤ (a *ℤ pos n)
product_low (pos m) n f g = omega (arith, ints)
product_low (negsuc m) n f g =
    let h : suc m ≤ 2 ^ 63 = omega (arith, ints, f) in
    omega (arith, ints, most (suc m) n h g)

pub product_high : (a : ℤ) (n : ℕ) → FitsSigned w64 a → Fits w32 n → (a *ℤ pos n) ≤ℤ pos (2 ^ 95)
product_high (pos m) n f g =
    let h : m ≤ 2 ^ 63 = omega (arith, ints, f) in
    omega (arith, ints, most m n h g)
product_high (negsuc m) n f g = omega (arith, ints)

-- a product fits
pub product_fits : (a : ℤ) (n : ℕ) → FitsSigned w64 a → Fits w32 n → FitsSigned w128 (a *ℤ pos n)
product_fits a n f g = omega (arith, ints, product_low a n f g, product_high a n f g)

-- both numbers widened, and multiplied
pub widened : (a x y : ℤ) (n : ℕ) → FitsSigned w64 a → Fits w32 n → x ≡ to_z w64 (of_z w64 a) → y ≡ pos n
    → to_z w128 (of_z w128 x) *ℤ to_z w128 (of_z w128 y) ≡ a *ℤ pos n
widened a x y n f g first second =
    let narrow : FitsSigned w128 a = omega (arith, ints, f) in
    let short : FitsSigned w128 (pos n) = omega (arith, ints, g) in
    rw (first, second, to_z-of_z w64 a f, to_z-of_z w128 a narrow, to_z-of_z w128 (pos n) short) refl
