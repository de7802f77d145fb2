-- A digit that is shifted up to the top of a word, and down again.
use Rattle.std.proofs.Common.{◌≡◌, ℕ, ◌+◌, ◌-◌, ◌*◌, ◌/◌, ◌%◌, ◌^◌, ◌<◌, ◌≤◌, ℤ, pos, negsuc, arith, sym, ap, ◌∙◌, w32}
use Rattle.std.proofs.lemmas.Bool.Decides.{nat_tests}
use Rattle.std.proofs.Common.{to_z, FitsSigned, ⊎_elim}
use Rattle.std.specs.Int.Signed.{shr_z}
use Rattle.std.proofs.lemmas.Bool.{lt-ltb, le-ltb, cases_lt}
use Rattle.std.proofs.lemmas.Nat.{pow_pos, pow-add, shl-shr, shr-shr, shr_high, mod-pow-add, mod_below, mul-add-lt}
use Rattle.std.proofs.Math.Nat.{add-mul, mul-le-mul_left, mul-le-mul_right, pow-le-pow_right}
use Rattle.mseed_steim.specs.private.Digits.{signed, digit_at}
use Rattle.mseed_steim.proofs.Spelled.{signed_32}
use Rattle.mseed_steim.proofs.Words.{twice_half}

-- the word with the digit at its top: the digit, and what is below it
abbrev below_top : ℕ → ℕ → ℕ → ℕ
below_top w k word = (word * 2 ^ k) % 2 ^ (32 - w)

abbrev digit_of : ℕ → ℕ → ℕ → ℕ
digit_of w place word = word / 2 ^ (w * place) % 2 ^ w

at_top : (w place k word : ℕ) → w ≤ 32 → k + w * place ≡ 32 - w
    → (word * 2 ^ k) % 2 ^ 32 ≡ digit_of w place word * 2 ^ (32 - w) + below_top w k word
at_top w place k word n e =
    let whole : w + (32 - w) ≡ 32 = omega arith in
    grind (arith, mod-pow-add, shl-shr, shr-shr)

-- its shift down
down : (w q r x : ℕ) → 0 < w → w ≤ 32 → q < 2 ^ w → r < 2 ^ (32 - w) → x < 2 ^ 32 → x ≡ q * 2 ^ (32 - w) + r
    → shr_z (signed 32 x) (2 ^ (32 - w)) ≡ signed w q
down w q r x p n small rest fits e =
    let bits : 31 ≡ w - 1 + (32 - w) = omega arith in
    let whole : 2 ^ 31 ≡ 2 ^ (w - 1) * 2 ^ (32 - w) = ap (λ (i : ℕ). 2 ^ i) bits ∙ pow-add 2 (w - 1) (32 - w) in
    ⊎_elim
    (λ (low : q < 2 ^ (w - 1)).
    let under : q * 2 ^ (32 - w) + r < 2 ^ (w - 1) * 2 ^ (32 - w) = search (arith, nat_tests, mul-add-lt) in
    let less : x < 2 ^ 31 = omega (arith, under, whole, e) in
    rw (lt-ltb x (2 ^ 31) less, lt-ltb q (2 ^ (w - 1)) low)
    (ap pos (ap (λ (i : ℕ). i / 2 ^ (32 - w)) e ∙ shr_high q (32 - w) r rest)))
    (λ (high : 2 ^ (w - 1) ≤ q).
    let over : 2 ^ (w - 1) * 2 ^ (32 - w) ≤ q * 2 ^ (32 - w) = mul-le-mul_right (2 ^ (32 - w)) high in
    let most : 2 ^ 31 ≤ x = omega (arith, over, whole, e) in
    let left = 2 ^ w - 1 - q in
    let all : left + q + 1 ≡ 2 ^ w = omega arith in
    let sum : (left + q + 1) * 2 ^ (32 - w) ≡ left * 2 ^ (32 - w) + q * 2 ^ (32 - w) + 2 ^ (32 - w) =
    search (arith, nat_tests, add-mul) in
    let word_bits : w + (32 - w) ≡ 32 = omega arith in
    let twice : 2 ^ w * 2 ^ (32 - w) ≡ 2 ^ 32 = sym (pow-add 2 w (32 - w)) ∙ ap (λ (i : ℕ). 2 ^ i) word_bits in
    let total = rw all at sum in
    let other : 2 ^ 32 - 1 - x ≡ left * 2 ^ (32 - w) + (2 ^ (32 - w) - 1 - r) = omega (arith, total, twice, e, rest) in
    rw (le-ltb x (2 ^ 31) most, le-ltb q (2 ^ (w - 1)) high)
    (ap negsuc (ap (λ (i : ℕ). i / 2 ^ (32 - w)) other
    ∙ shr_high left (32 - w) (2 ^ (32 - w) - 1 - r) (omega arith))))
    (cases_lt q (2 ^ (w - 1)))

fitting : (w q : ℕ) → 0 < w → w ≤ 32 → q < 2 ^ w → FitsSigned w32 (signed w q)
fitting w q p n h = search (arith, pow-le-pow_right, twice_half)

pub digit_fits : (w place word : ℕ) → 0 < w → w ≤ 32 → FitsSigned w32 (digit_at w word place)
digit_fits w place word p n = grind (arith, fitting, mod_below, pow_pos)

-- a digit within a word has no more bits than the word
pub narrow : (w place : ℕ) → w * (place + 1) ≤ 32 → w ≤ 32
narrow w place h = let cut : w * (place + 1) ≡ w * place + w = omega arith in omega (arith, cut)

pub shifted : (w place word : ℕ) → 0 < w → w * (place + 1) ≤ 32
    → shr_z (to_z w32 ((word * 2 ^ (32 - w * (place + 1))) % 2 ^ 32)) (2 ^ (32 - w)) ≡ digit_at w word place
shifted w place word p h =
    let n = narrow w place h in
    let k = 32 - w * (place + 1) in
    let cut : w * (place + 1) ≡ w * place + w = omega arith in
    let places : k + w * place ≡ 32 - w = omega (arith, cut) in
    let fits : (word * 2 ^ k) % 2 ^ 32 < 2 ^ 32 = mod_below (word * 2 ^ k) (2 ^ 32) (pow_pos 32) in
    ap (λ (z : ℤ). shr_z z (2 ^ (32 - w))) (sym (signed_32 ((word * 2 ^ k) % 2 ^ 32) fits))
    ∙ down w (digit_of w place word) (below_top w k word) ((word * 2 ^ k) % 2 ^ 32) p n
    (mod_below (word / 2 ^ (w * place)) (2 ^ w) (pow_pos w))
    (mod_below (word * 2 ^ k) (2 ^ (32 - w)) (pow_pos (32 - w))) fits (at_top w place k word n places)

-- the digits of a group are within the word
pub room_at : (w count i : ℕ) → i < count → w * count ≤ 32 → w * (count - 1 - i + 1) ≤ 32
room_at w count i h fits = search (arith, mul-le-mul_left)
