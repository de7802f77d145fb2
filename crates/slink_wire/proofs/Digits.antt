-- Digits to the base sixteen.
use Rattle.std.proofs.Common.{◌≡◌, ℕ, ◌+◌, ◌*◌, ◌/◌, ◌%◌, ◌^◌, ◌<◌, ◌≤◌, zero, suc, refl, sym, ◌∙◌, arith}
use Rattle.std.proofs.Common.{List, [], ◌∷◌, ◌++◌, length, get_or, take, map}
use Rattle.std.proofs.Common.{length-append, add-one, not, ◌==◌, ◌≢◌}
use Rattle.std.specs.Char.{to_ascii_uppercase}
use Rattle.std.proofs.lemmas.List.Folds.{list_all-append}
use Rattle.std.proofs.lemmas.Bool.{both_ways, eq-eqb, ne_eqb}
use Rattle.std.proofs.lemmas.List.{length-map, map_more, map_push, same_from_push, get_or-map}
use Rattle.std.proofs.lemmas.List.Folds.{list_all_at}
use Rattle.std.proofs.Math.Nat.{div-div-eq-div-mul, pow-suc, pow-le-pow_right}
use Rattle.slink_wire.specs.Hexadecimal.{SpellsNumber, digit_byte, hexadecimal}
use Rattle.slink_wire.proofs.Cuts.{Lacks}

-- the last six digits of any number, each on its own
pub last_six : (n : ℕ) → hexadecimal 6 n ≡ digit_byte (n / 1048576 % 16) ∷ digit_byte (n / 65536 % 16) ∷ digit_byte
    (n / 4096 % 16) ∷ digit_byte (n / 256 % 16) ∷ digit_byte (n / 16 % 16) ∷ digit_byte (n % 16) ∷ []
unfolding hexadecimal
last_six n = simp div-div-eq-div-mul

-- one digit more
hexadecimal_more : (k n d : ℕ) → d < 16 → hexadecimal (k + 1) (n * 16 + d) ≡ hexadecimal k n ++ digit_byte d ∷ []
unfolding hexadecimal
hexadecimal_more k n d h =
    let high : (n * 16 + d) / 16 ≡ n = omega arith in
    let low : (n * 16 + d) % 16 ≡ d = omega arith in
    rw (add-one, high, low)

pub length-hexadecimal : (k n : ℕ) → length (hexadecimal k n) ≡ k
unfolding hexadecimal
length-hexadecimal zero n = refl
length-hexadecimal (suc k) n = omega (arith, length-append {A = ℕ}, length-hexadecimal k (n / 16))

pub digit_above : (d : ℕ) → 48 ≤ digit_byte d
digit_above d = grind arith

-- a byte that writes no digit is none of them
pub digits_lack : (byte : ℕ) → ((d : ℕ) → d < 16 → digit_byte d ≢ byte) → (k n : ℕ) → Lacks byte (hexadecimal k n)
unfolding hexadecimal
digits_lack byte other zero n = refl
digits_lack byte other (suc k) n = simp (list_all-append, digits_lack byte other k (n / 16))
    (rw (ne_eqb (digit_byte (n % 16)) byte (other (n % 16) (omega arith))))

one_digit : (d e : ℕ) → d < 16 → e < 16 → digit_byte d ≡ digit_byte e → d ≡ e
one_digit d e hd he same = grind arith

digit_stays : (d : ℕ) → d < 16 → to_ascii_uppercase (digit_byte d) ≡ digit_byte d
digit_stays d h = grind arith

pub hexadecimal_stays : (k n : ℕ) → map to_ascii_uppercase (hexadecimal k n) ≡ hexadecimal k n
unfolding hexadecimal
hexadecimal_stays zero n = refl
hexadecimal_stays (suc k) n =
    simp (map_push, hexadecimal_stays k (n / 16), digit_stays (n % 16) (omega arith))

-- digits say one number
one_number : (k n m : ℕ) → n < 16 ^ k → m < 16 ^ k → hexadecimal k n ≡ hexadecimal k m → n ≡ m
unfolding hexadecimal
one_number zero n m hn hm same = omega arith
one_number (suc k) n m hn hm same =
    let parts = same_from_push _ _ (digit_byte (n % 16)) (digit_byte (m % 16)) same in
    let wide : 16 ^ suc k ≡ 16 ^ k * 16 = pow-suc 16 k in
    let high = one_number k (n / 16) (m / 16) (omega arith) (omega arith) parts.0 in
    omega (arith, one_digit (n % 16) (m % 16) (omega arith) (omega arith) parts.1, high)

pub spells_one : (g h : List ℕ) (n m : ℕ) → g ≡ h → SpellsNumber g n → SpellsNumber h m → n ≡ m
spells_one g h n m same p q =
    one_number (length g) n m p.0 (rw (← same) at q.0) (sym p.1 ∙ (rw (← same) at q.1))

pub none_written : (digits : List ℕ) (i : ℕ) → i < length digits
    → ((d : ℕ) → d < 16 → to_ascii_uppercase (get_or digits i 0) ≡ digit_byte d → ⊥)
    → (n : ℕ) → SpellsNumber digits n → ⊥
none_written digits i lt other n h =
    let byte : ℕ = to_ascii_uppercase (get_or digits i 0) in
    let lacks : Lacks byte (map to_ascii_uppercase digits) =
    rw (h.1) (digits_lack byte (λ d small e. other d small (sym e)) (length digits) n) in
    both_ways _ (list_all_at (λ b. not (b == byte)) (map to_ascii_uppercase digits) i 0 (simp length-map lt)
    (rw (get_or-map to_ascii_uppercase digits i 0 0 lt, eq-eqb byte byte refl))) lacks

-- the digits so far, and one more
pub record Reads (digits : List ℕ) (i n : ℕ) : Type 0 where
  pub small : n < 16 ^ i
  pub written : map to_ascii_uppercase (take i digits) ≡ hexadecimal i n

pub reads_none : (digits : List ℕ) → Reads digits 0 0
unfolding hexadecimal
reads_none digits = record { small = omega arith; written = refl }

pub reads_more : (digits : List ℕ) (i n d : ℕ) → i < length digits → d < 16
    → to_ascii_uppercase (get_or digits i 0) ≡ digit_byte d → Reads digits i n → Reads digits (i + 1) (n * 16 + d)
reads_more digits i n d lt h digit r = record {
  small = (let wide : 16 ^ (i + 1) ≡ 16 ^ i * 16 = rw add-one (pow-suc 16 i) in omega (arith, wide, r.small));
  written = map_more to_ascii_uppercase digits i 0 lt ∙ rw (r.written, digit, hexadecimal_more i n d h);
}

-- a number of at most six digits fits
pub reads_fits : (digits : List ℕ) (i n d : ℕ) → i < 6 → d < 16 → Reads digits i n → n * 16 + d < 2 ^ 24
reads_fits digits i n d lt h r =
    let wide : 16 ^ i ≤ 16 ^ 5 = pow-le-pow_right {n = 16} (omega arith) {i = i} {j = 5} (omega arith) in
    omega (arith, wide, r.small)
