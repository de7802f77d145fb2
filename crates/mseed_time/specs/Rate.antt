-- The sample rate of a record (SEED manual, chapter 8, fields 10 and 11 of the fixed section).
use Rattle.std.specs.Prelude.{◌≡◌, ◌<◌, ◌≤◌, ◌^◌, ℕ, zero, suc, ◌*◌, ℤ, pos, negsuc, Option, Some, None}

-- num samples in den seconds
pub record Ratio : Type 0 where
  pub num : ℕ
  pub den : ℕ

-- the range of both: that of what two fields of 16 bits give
pub record IsRatio (r : Ratio) : Type 0 where
  pub num_counts : 0 < r.num
  pub num_bound : r.num ≤ 2 ^ 30
  pub den_counts : 0 < r.den
  pub den_bound : r.den ≤ 2 ^ 30

-- The rate of a factor and a multiplier: what is positive multiplies, what is negative divides; with a
-- zero in either there is none.
abbrev pub rate_of : ℤ → ℤ → Option Ratio
rate_of (pos zero) multiplier = None
rate_of (pos (suc f)) (pos zero) = None
rate_of (pos (suc f)) (pos (suc m)) = Some (record { num = suc f * suc m; den = 1 })
rate_of (pos (suc f)) (negsuc m) = Some (record { num = suc f; den = suc m })
rate_of (negsuc f) (pos zero) = None
rate_of (negsuc f) (pos (suc m)) = Some (record { num = suc m; den = suc f })
rate_of (negsuc f) (negsuc m) = Some (record { num = 1; den = suc f * suc m })

-- two ratios are one rate, reduced or not
abbrev pub SameRate : Ratio → Ratio → Type 0
SameRate a b = a.num * b.den ≡ b.num * a.den

-- the number where it is positive, else 1
abbrev pub positive_part_of : ℤ → ℕ
positive_part_of (pos zero) = 1
positive_part_of (pos (suc n)) = suc n
positive_part_of (negsuc n) = 1

-- the size of the number where it is negative, else 1
abbrev pub negative_part_of : ℤ → ℕ
negative_part_of (pos n) = 1
negative_part_of (negsuc n) = suc n
