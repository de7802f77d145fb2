-- A word's differences, lane by lane.
use Rattle.std.proofs.Common.{◌≡◌, ℕ, suc, ◌+◌, ◌-◌, ◌<◌, ◌≤◌, ◌++◌, ◌∷◌, List, ℤ, take, set, map}
use Rattle.std.proofs.Common.{get_or, length, arith}
use lib.Lanes.{sum_l}
use Rattle.std.specs.Prelude.{min}
use Rattle.std.proofs.Math.Nat.{min-eq_left, min-eq_right}
use Rattle.std.proofs.lemmas.List.{take-set-le}
use Rattle.mseed_steim.specs.private.Digits.{digit_at, digits}
use Rattle.mseed_steim.specs.private.Lanes.{words}
use Rattle.mseed_steim.proofs.Below.{sixteen}
use Rattle.mseed_steim.proofs.Spelled.{digits_step, digits_over}
use Rattle.mseed_steim.proofs.Folded.{take_put}

-- one lane more
pub next_lane : (out prefix : List ℤ) (at lane count w word : ℕ) (z : ℤ) → at + lane < length out
    → (lane < count → z ≡ digit_at w word (count - 1 - lane))
    → take (at + min lane count) out ++ digits w word (count - lane) ≡ prefix
    → take (at + min (lane + 1) count) (set out (at + lane) z) ++ digits w word (count - (lane + 1)) ≡ prefix
next_lane out prefix at lane count w word z inside value so_far =
    search (arith, digits_over, digits_step, min-eq_left, min-eq_right, take-set-le, take_put)

-- a table's number of a word
pub at_word : (f : ℕ → ℕ) (w : ℕ) → w < 16 → get_or (map f words) w 0 ≡ f w
unfolding words
at_word f = grind (arith, sixteen)

pub place_at : (w : ℕ) → w < 16 → get_or words w 0 ≡ w
unfolding words
place_at = grind (arith, sixteen)

-- no number of a list is more than their sum
pub one_of_sum : (xs : List ℕ) (i : ℕ) → get_or xs i 0 ≤ sum_l xs
one_of_sum (x ∷ xs) (suc i) = let later = one_of_sum xs i in omega (arith, later)
one_of_sum _ _ = omega arith
