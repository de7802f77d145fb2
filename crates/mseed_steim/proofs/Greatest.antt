-- The greater of two numbers.
use Rattle.std.proofs.Common.{◌≡◌, ◌⊎◌, ℕ, ◌≤◌, arith, Bool, cond, ltb, Less}
use Rattle.std.proofs.Common.{Equal, Greater}
use Rattle.std.specs.Ordering.{nat_cmp, ord_max, is_lt}
use Rattle.std.proofs.lemmas.Bool.{ltb-true, ltb-false}

max_by : (t e : Bool) (a b : ℕ) → ltb b a ≡ t → cond (is_lt (cond t Less (cond e Equal Greater))) a b ≡ cond t a b
max_by t e a b h = search arith

-- the greater of two
pub max_is : (a b m : ℕ) → m ≡ ord_max nat_cmp a b → (a ≤ m) × (b ≤ m) × ((m ≡ a) ⊎ (m ≡ b))
max_is a b m e = search (arith, ltb-false, ltb-true, max_by)
