-- What a byte's parts count for.
use Rattle.std.proofs.Common.{◌≡◌, ℕ, zero, suc, ◌+◌, ◌-◌, ◌*◌, ◌/◌, ◌%◌, ◌^◌, ◌<◌, ◌≤◌, Bool, ◌&&◌, eqb, T}
use Rattle.std.proofs.lemmas.Bool.Decides.{nat_tests}
use Rattle.std.proofs.Common.{refl, List, get_or, ap, ◌∙◌, arith, eqb→eq, ⊎_elim, pos, ◌+ℤ◌}
use Rattle.std.proofs.lemmas.Int.{ints}
use Rattle.std.proofs.lemmas.Bool.{cases_lt, lt-ltb, le-ltb}
use Rattle.std.proofs.lemmas.Nat.{pow_pos}
use Rattle.std.proofs.Math.Nat.{add-mod_right, mod-eq_of_lt, mod-lt}
use Rattle.mseed_steim.specs.private.Digits.{signed, digits}
use Rattle.mseed_steim.specs.private.Lanes.{total, word_of}
use Rattle.mseed_steim.proofs.Below.{all_below, every_below}
use Rattle.mseed_steim.proofs.Words.{twice_half}

-- a number of four bytes that is a sum of numbers of one byte each
abbrev pub Separate : (ℕ → ℕ → ℕ → ℕ → ℕ) → Type 0
Separate f = (a b c d : ℕ) → f a b c d + 3 * f 0 0 0 0 ≡ f a 0 0 0 + f 0 b 0 0 + f 0 0 c 0 + f 0 0 0 d

-- two such numbers agree where one byte alone isn't 0
abbrev pub agree_at : (ℕ → ℕ → ℕ → ℕ → ℕ) → (ℕ → ℕ → ℕ → ℕ → ℕ) → ℕ → Bool
agree_at f g x = eqb (f x 0 0 0) (g x 0 0 0)
    && (eqb (f 0 x 0 0) (g 0 x 0 0) && (eqb (f 0 0 x 0) (g 0 0 x 0) && eqb (f 0 0 0 x) (g 0 0 0 x)))

all_four : (p q r s : Bool) → T (p && (q && (r && s))) → T p × T q × T r × T s
all_four p q r s h = search arith

-- so they are one
pub by_bytes : (f g : ℕ → ℕ → ℕ → ℕ → ℕ) → Separate f → Separate g → T (all_below (agree_at f g) 256)
    → (a b c d : ℕ) → a < 256 → b < 256 → c < 256 → d < 256 → f a b c d ≡ g a b c d
by_bytes f g F G h a b c d A B C D =
    let one : f a 0 0 0 ≡ g a 0 0 0 = eqb→eq (f a 0 0 0) (g a 0 0 0) (at a A).0 in
    let two : f 0 b 0 0 ≡ g 0 b 0 0 = eqb→eq (f 0 b 0 0) (g 0 b 0 0) (at b B).1 in
    let three : f 0 0 c 0 ≡ g 0 0 c 0 = eqb→eq (f 0 0 c 0) (g 0 0 c 0) (at c C).2 in
    let four : f 0 0 0 d ≡ g 0 0 0 d = eqb→eq (f 0 0 0 d) (g 0 0 0 d) (at d D).3 in
    let none : f 0 0 0 0 ≡ g 0 0 0 0 = eqb→eq (f 0 0 0 0) (g 0 0 0 0) (at 0 (omega arith)).0 in
    omega (arith, F a b c d, G a b c d, one, two, three, four, none)
  where
    at : (x : ℕ) → x < 256 → T (eqb (f x 0 0 0) (g x 0 0 0)) × T (eqb (f 0 x 0 0) (g 0 x 0 0))
        × T (eqb (f 0 0 x 0) (g 0 0 x 0)) × T (eqb (f 0 0 0 x) (g 0 0 0 x))
    at x less = all_four (eqb (f x 0 0 0) (g x 0 0 0)) (eqb (f 0 x 0 0) (g 0 x 0 0)) (eqb (f 0 0 x 0) (g 0 0 x 0))
        (eqb (f 0 0 0 x) (g 0 0 0 x)) (every_below (agree_at f g) 256 h x less)

-- and one that is 0 for each byte alone is 0
pub no_bytes : (f : ℕ → ℕ → ℕ → ℕ → ℕ) → Separate f → T (all_below (agree_at f (λ a b c d. 0)) 256)
    → (a b c d : ℕ) → a < 256 → b < 256 → c < 256 → d < 256 → f a b c d ≡ 0
no_bytes f F = by_bytes f (λ a b c d. 0) F (λ a b c d. omega arith)

-- a digit, more by half its range
raised : (w x : ℕ) → 0 < w → x < 2 ^ w → signed w x +ℤ pos (2 ^ (w - 1)) ≡ pos ((x + 2 ^ (w - 1)) % 2 ^ w)
raised w x some less = ⊎_elim
    (λ (low : x < 2 ^ (w - 1)).
    let value : (x + 2 ^ (w - 1)) % 2 ^ w ≡ x + 2 ^ (w - 1) = mod-eq_of_lt (omega (arith, low, half)) in
    rw (lt-ltb x (2 ^ (w - 1)) low, value) (omega (arith, ints)))
    (λ (high : 2 ^ (w - 1) ≤ x).
    let down : x - 2 ^ (w - 1) < 2 ^ w = omega (arith, less) in
    let sum : x + 2 ^ (w - 1) ≡ x - 2 ^ (w - 1) + 2 ^ w = omega (arith, high, half) in
    let value : (x + 2 ^ (w - 1)) % 2 ^ w ≡ x - 2 ^ (w - 1) = search (arith, nat_tests, add-mod_right, mod-eq_of_lt) in
    rw (le-ltb x (2 ^ (w - 1)) high, value) (omega (arith, ints, less, half, high)))
    (cases_lt x (2 ^ (w - 1)))
  where
    half : 2 ^ w ≡ 2 * 2 ^ (w - 1)
    half = twice_half w some

-- the digits of a word, each more by half its range
abbrev pub raised_sum : ℕ → ℕ → ℕ → ℕ
raised_sum w word zero = 0
raised_sum w word (suc n) = (word / 2 ^ (w * n) % 2 ^ w + 2 ^ (w - 1)) % 2 ^ w + raised_sum w word n

-- their sum tells that of the differences
pub raised_total : (w word : ℕ) → 0 < w → (n : ℕ)
    → pos (raised_sum w word n) ≡ total (digits w word n) +ℤ pos (n * 2 ^ (w - 1))
unfolding digits
raised_total w word some zero = omega (arith, ints)
raised_total w word some (suc n) =
    let one = raised w (word / 2 ^ (w * n) % 2 ^ w) some (mod-lt (word / 2 ^ (w * n)) (pow_pos w)) in
    let later = raised_total w word some n in
    let more : suc n * 2 ^ (w - 1) ≡ 2 ^ (w - 1) + n * 2 ^ (w - 1) = omega arith in
    rw more (omega (arith, ints, one, later))

-- 4 differences of 8 bits
pub four_is : (a b c d : ℕ) → a < 256 → b < 256 → c < 256 → d < 256
    → raised_sum 8 (word_of a b c d) 4 ≡ (a + 128) % 256 + (b + 128) % 256 + (c + 128) % 256 + (d + 128) % 256
four_is a b c d A B C D = search arith

-- 2 differences of 15 bits
pub two_is : (a b c d : ℕ) → a < 256 → b < 256 → c < 256 → d < 256
    → raised_sum 15 (word_of a b c d) 2 ≡ 512 * ((a + 32) % 64) + 2 * b + c / 128 + 256 * ((c + 64) % 128) + d
two_is a b c d A B C D = search arith

-- 3 differences of 10 bits
pub three_is : (a b c d : ℕ) → a < 256 → b < 256 → c < 256 → d < 256
    → raised_sum 10 (word_of a b c d) 3 ≡ 16 * ((a + 32) % 64) + b / 16 + 64 * ((b + 8) % 16) + c / 4 + 256 * ((c + 2) %
    4)
    + d
three_is a b c d A B C D = search arith

-- 5 differences of 6 bits
pub five_is : (a b c d : ℕ) → a < 256 → b < 256 → c < 256 → d < 256
    → raised_sum 6 (word_of a b c d) 5 ≡ (a + 32) % 64 + (b / 4 + 32) % 64 + 16 * ((b + 2) % 4) + c / 16
    + 4 * ((c + 8) % 16) + d / 64 + (d + 32) % 64
five_is a b c d A B C D =
    let digit_4 : (word_of a b c d / 16777216 % 64 + 32) % 64 ≡ (a + 32) % 64 = omega arith in
    grind arith

-- 6 differences of 5 bits
pub six_is : (a b c d : ℕ) → a < 256 → b < 256 → c < 256 → d < 256
    → raised_sum 5 (word_of a b c d) 6 ≡ (a / 2 + 16) % 32 + 16 * ((a + 1) % 2) + b / 16 + 2 * ((b + 8) % 16) + c / 128
    + (c / 4 + 16) % 32 + 8 * ((c + 2) % 4) + d / 32 + (d + 16) % 32
six_is a b c d A B C D =
    let digit_5 : (word_of a b c d / 33554432 % 32 + 16) % 32 ≡ (a / 2 + 16) % 32 = omega arith in
    let digit_4 : (word_of a b c d / 1048576 % 32 + 16) % 32 ≡ 16 * ((a + 1) % 2) + b / 16 = omega arith in
    let digit_3 : (word_of a b c d / 32768 % 32 + 16) % 32 ≡ 2 * ((b + 8) % 16) + c / 128 = omega arith in
    let digit_2 : (word_of a b c d / 1024 % 32 + 16) % 32 ≡ (c / 4 + 16) % 32 = omega arith in
    let digit_1 : (word_of a b c d / 32 % 32 + 16) % 32 ≡ 8 * ((c + 2) % 4) + d / 32 = omega arith in
    let digit_0 : (word_of a b c d / 1 % 32 + 16) % 32 ≡ (d + 16) % 32 = omega arith in
    omega (arith, digit_5, digit_4, digit_3, digit_2, digit_1, digit_0)

-- 7 differences of 4 bits
pub seven_is : (a b c d : ℕ) → a < 256 → b < 256 → c < 256 → d < 256
    → raised_sum 4 (word_of a b c d) 7 ≡ (a + 8) % 16 + (b / 16 + 8) % 16 + (b + 8) % 16 + (c / 16 + 8) % 16 + (c + 8) %
    16
    + (d / 16 + 8) % 16 + (d + 8) % 16
seven_is a b c d A B C D =
    let digit_6 : (word_of a b c d / 16777216 % 16 + 8) % 16 ≡ (a + 8) % 16 = omega arith in
    let digit_5 : (word_of a b c d / 1048576 % 16 + 8) % 16 ≡ (b / 16 + 8) % 16 = omega arith in
    let digit_4 : (word_of a b c d / 65536 % 16 + 8) % 16 ≡ (b + 8) % 16 = omega arith in
    let digit_3 : (word_of a b c d / 4096 % 16 + 8) % 16 ≡ (c / 16 + 8) % 16 = omega arith in
    let digit_2 : (word_of a b c d / 256 % 16 + 8) % 16 ≡ (c + 8) % 16 = omega arith in
    let digit_1 : (word_of a b c d / 16 % 16 + 8) % 16 ≡ (d / 16 + 8) % 16 = omega arith in
    let digit_0 : (word_of a b c d / 1 % 16 + 8) % 16 ≡ (d + 8) % 16 = omega arith in
    omega (arith, digit_6, digit_5, digit_4, digit_3, digit_2, digit_1, digit_0)

-- 2 differences of 16 bits
pub wide_is : (a b c d : ℕ) → a < 256 → b < 256 → c < 256 → d < 256
    → raised_sum 16 (word_of a b c d) 2 ≡ 256 * ((a + 128) % 256) + b + 256 * ((c + 128) % 256) + d
wide_is a b c d A B C D = search arith

-- By a row, what the parts of a word count for tells what its differences come to: it is 128-fold, and more by `least`.
abbrev pub Tells : List ℕ → List ℕ → (ℕ → ℕ → ℕ → ℕ → ℕ → ℕ) → (ℕ → ℕ) → ℕ → Type 0
Tells counts widths whole least row =
    (a b c d : ℕ) → a < 256 → b < 256 → c < 256 → d < 256 → get_or counts row 0 < 128
    → (whole row a b c d % 128 ≡ 0)
    × (pos (whole row a b c d / 128)
    ≡ total (digits (get_or widths row 0) (word_of a b c d) (get_or counts row 0)) +ℤ pos (least row))

-- told by the digits of a word, each more by half its range: their sum comes byte by byte, as that of the parts does
pub told : (counts widths : List ℕ) (whole : ℕ → ℕ → ℕ → ℕ → ℕ → ℕ) (least : ℕ → ℕ) (row : ℕ)
    (sum : ℕ → ℕ → ℕ → ℕ → ℕ)
    → ((a b c d : ℕ) → a < 256 → b < 256 → c < 256 → d < 256
    → raised_sum (get_or widths row 0) (word_of a b c d) (get_or counts row 0) ≡ sum a b c d)
    → least row ≡ get_or counts row 0 * 2 ^ (get_or widths row 0 - 1) → 0 < get_or widths row 0
    → Separate (whole row) → Separate sum
    → T (all_below (agree_at (whole row) (λ a b c d. 128 * sum a b c d)) 256) → Tells counts widths whole least row
told counts widths whole least row sum is low some F G agree a b c d A B C D few =
    let e : whole row a b c d ≡ 128 * sum a b c d =
    by_bytes (whole row) (λ a b c d. 128 * sum a b c d) F (λ a b c d. omega (arith, G a b c d)) agree a b c d A B C D in
    let f : whole row a b c d / 128 ≡ sum a b c d = ap (λ n. n / 128) e ∙ omega arith in (
      ap (λ n. n % 128) e ∙ omega arith,
      rw (f, ← is a b c d A B C D, low)
          (raised_total (get_or widths row 0) (word_of a b c d) some (get_or counts row 0)),
    )

-- a row of no differences
pub none_told : (counts widths : List ℕ) (whole : ℕ → ℕ → ℕ → ℕ → ℕ → ℕ) (least : ℕ → ℕ) (row : ℕ)
    → Separate (whole row) → T (all_below (agree_at (whole row) (λ a b c d. 0)) 256)
    → get_or counts row 0 ≡ 0 → least row ≡ 0 → Tells counts widths whole least row
unfolding digits
none_told counts widths whole least row F agree none low a b c d A B C D few =
    let e = no_bytes (whole row) F agree a b c d A B C D in
    (ap (λ n. n % 128) e, rw (e, none, low) refl)
