-- The digits of a number, four and two at a time.
use Rattle.std.proofs.Common.{◌≡◌, ℕ, ◌+◌, ◌/◌, ◌%◌, ◌^◌, ◌<◌, ◌≤◌}
use Rattle.std.proofs.Common.{List, ◌∷◌, ◌++◌, refl, sym, ap, ◌∙◌, arith}
use Rattle.std.proofs.Common.{append_assoc, decimal}
use Rattle.std.proofs.lemmas.Fmt.{decimal_digit, decimal_step}
use Rattle.mseed_time.specs.Text.{padded_decimal}

-- the first digits of a number, and its last two
decimal_two_more : (n : ℕ) → 100 ≤ n → n < 2 ^ 64 → decimal n ≡ decimal (n / 100) ++ padded_decimal 2 (n % 100)
decimal_two_more n many fits =
    let a : n / 10 / 10 ≡ n / 100 = omega arith in
    let b : n / 10 % 10 ≡ n % 100 / 10 % 10 = omega arith in
    let c : n % 10 ≡ n % 100 / 1 % 10 = omega arith in
    rw (decimal_step n (omega arith) fits, decimal_step (n / 10) (omega arith) (omega arith), append_assoc, a, b, ← c)
    refl

-- two digits, and two more
pub two_and_two : (n : ℕ) → padded_decimal 2 (n / 100) ++ padded_decimal 2 (n % 100) ≡ padded_decimal 4 n
two_and_two n =
    let thousands : n / 100 / 10 % 10 ≡ n / 1000 % 10 = omega arith in
    let hundreds : n / 100 / 1 % 10 ≡ n / 100 % 10 = omega arith in
    let tens : n % 100 / 10 % 10 ≡ n / 10 % 10 = omega arith in
    let ones : n % 100 / 1 % 10 ≡ n / 1 % 10 = omega arith in
    cc (thousands, hundreds, tens, ones)

-- the first digits of a number, and its last four
pub decimal_four_more : (n : ℕ) → 10000 ≤ n → n < 2 ^ 64
    → decimal n ≡ decimal (n / 10000) ++ padded_decimal 4 (n % 10000)
decimal_four_more n many fits =
    let a : n / 100 / 100 ≡ n / 10000 = omega arith in
    let b : n / 100 % 100 ≡ n % 10000 / 100 = omega arith in
    let c : n % 100 ≡ n % 10000 % 100 = omega arith in
    rw (
      decimal_two_more n (omega arith) fits,
      decimal_two_more (n / 100) (omega arith) (omega arith),
      append_assoc,
      a,
      b,
      c,
      two_and_two (n % 10000),
    ) refl

-- a number of two digits
pub decimal_two : (n : ℕ) → 10 ≤ n → n < 100 → padded_decimal 2 n ≡ decimal n
decimal_two n many few =
    let tens : n / 10 % 10 ≡ n / 10 = omega arith in
    let ones : n / 1 % 10 ≡ n % 10 = omega arith in
    rw (decimal_step n many (omega arith), decimal_digit (n / 10) (omega arith), tens, ones) refl

-- of three
pub decimal_three : (n : ℕ) → 100 ≤ n → n < 1000 → (48 + n / 100) ∷ padded_decimal 2 (n % 100) ≡ decimal n
decimal_three n many few =
    rw (decimal_two_more n many (omega arith), decimal_digit (n / 100) (omega arith)) refl

-- of four
pub decimal_four : (n : ℕ) → 1000 ≤ n → n < 10000 → padded_decimal 4 n ≡ decimal n
decimal_four n many few =
    rw (decimal_two_more n (omega arith) (omega arith), ← decimal_two (n / 100) (omega arith) (omega arith))
    (sym (two_and_two n))

-- four digits, and four more
four_and_four : (n : ℕ) → padded_decimal 4 (n / 10000) ++ padded_decimal 4 (n % 10000) ≡ padded_decimal 8 n
four_and_four n =
    let a : n / 10000 / 1000 % 10 ≡ n / 10000000 % 10 = omega arith in
    let b : n / 10000 / 100 % 10 ≡ n / 1000000 % 10 = omega arith in
    let c : n / 10000 / 10 % 10 ≡ n / 100000 % 10 = omega arith in
    let d : n / 10000 / 1 % 10 ≡ n / 10000 % 10 = omega arith in
    let e : n % 10000 / 1000 % 10 ≡ n / 1000 % 10 = omega arith in
    let f : n % 10000 / 100 % 10 ≡ n / 100 % 10 = omega arith in
    let g : n % 10000 / 10 % 10 ≡ n / 10 % 10 = omega arith in
    let h : n % 10000 / 1 % 10 ≡ n / 1 % 10 = omega arith in
    cc (a, b, c, d, e, f, g, h)

-- the first digits of a number, and its last eight
decimal_eight_more : (n : ℕ) → 10 ^ 8 ≤ n → n < 2 ^ 64
    → decimal n ≡ decimal (n / 10 ^ 8) ++ padded_decimal 8 (n % 10 ^ 8)
decimal_eight_more n many fits =
    let a : n / 10000 / 10000 ≡ n / 10 ^ 8 = omega arith in
    let b : n / 10000 % 10000 ≡ n % 10 ^ 8 / 10000 = omega arith in
    let c : n % 10000 ≡ n % 10 ^ 8 % 10000 = omega arith in
    rw (
      decimal_four_more n (omega arith) fits,
      decimal_four_more (n / 10000) (omega arith) (omega arith),
      append_assoc,
      a,
      b,
      c,
      four_and_four (n % 10 ^ 8),
    ) refl

-- after some text
pub put_four : (n : ℕ) (old front new : List ℕ) → 10000 ≤ n → n < 2 ^ 64 → front ≡ old ++ decimal (n / 10000)
    → new ≡ front ++ padded_decimal 4 (n % 10000) → new ≡ old ++ decimal n
put_four n old front new many fits first last =
    last ∙ ap (λ (xs : List ℕ). xs ++ padded_decimal 4 (n % 10000)) first
    ∙ append_assoc old (decimal (n / 10000)) (padded_decimal 4 (n % 10000))
    ∙ ap (λ (xs : List ℕ). old ++ xs) (sym (decimal_four_more n many fits))

pub put_eight : (n : ℕ) (old front new : List ℕ) → 10 ^ 8 ≤ n → n < 2 ^ 64 → front ≡ old ++ decimal (n / 10 ^ 8)
    → new ≡ front ++ padded_decimal 8 (n % 10 ^ 8) → new ≡ old ++ decimal n
put_eight n old front new many fits first last =
    last ∙ ap (λ (xs : List ℕ). xs ++ padded_decimal 8 (n % 10 ^ 8)) first
    ∙ append_assoc old (decimal (n / 10 ^ 8)) (padded_decimal 8 (n % 10 ^ 8))
    ∙ ap (λ (xs : List ℕ). old ++ xs) (sym (decimal_eight_more n many fits))
