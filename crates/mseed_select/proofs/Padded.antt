-- Numbers of so many digits, as they are written and as they are read.
use Rattle.std.proofs.Common.{◌≡◌, ◌⊎◌, ℕ, zero, suc, ◌+◌, ◌-◌, ◌*◌, ◌/◌, ◌%◌, ◌^◌, ◌<◌, ◌≤◌, refl, sym, ap, ◌∙◌}
use Rattle.std.proofs.Common.{arith}
use Rattle.std.proofs.Common.{true, false, ◌&&◌, eqb, List, [], ◌∷◌, ◌++◌, length, replicate, Some}
use Rattle.std.proofs.Common.{fold}
use Rattle.std.specs.List.{All}
use Rattle.std.proofs.lemmas.Bool.{and_parts, eqb-true}
use Rattle.std.proofs.lemmas.Bool.Decides.{nat_tests}
use Rattle.std.proofs.Math.Nat.{pow-suc}
use Rattle.std.proofs.lemmas.List.{length-append, length-replicate}
use Rattle.std.proofs.lemmas.List.Elements.{All-append, All-cons}
use Rattle.std.proofs.lemmas.List.Folds.{list_all-append}
use Rattle.std.proofs.lemmas.List.Sums.{AllPass-from_list_all}
use Rattle.std.proofs.lemmas.Nat.{div-mul-add, mod_below, mul-add-lt}
use Rattle.mseed_time.specs.Btime.{is_within}
use Rattle.mseed_time.specs.Text.{padded_decimal}
use Rattle.mseed_time.proofs.Dating.{some_by, within_is, within_yes}
use Rattle.mseed_select.specs.Word.{are_digits, fraction_of, number_in, number_of}
use Rattle.mseed_select.proofs.Digits.{fraction_is}

-- no element of a text is this character
abbrev pub Lacks : ℕ → List ℕ → Type 0
Lacks c text = All (λ (x : ℕ). eqb x c ≡ false) text

-- two texts and what stands between them
pub lacks_both : (c : ℕ) (a : List ℕ) (x : ℕ) (b : List ℕ) → Lacks c a → eqb x c ≡ false → Lacks c b
    → Lacks c (a ++ x ∷ b)
lacks_both c a x b one other two =
    All-append (λ (k : ℕ). eqb k c ≡ false) a (x ∷ b) one (All-cons (λ (k : ℕ). eqb k c ≡ false) x b other two)

digit_is_other : (x c : ℕ) → is_within 48 57 x ≡ true → (57 < c) ⊎ (c < 48) → eqb x c ≡ false
digit_is_other x c digit other =
    let in_range = within_is 48 57 x digit in grind (arith, nat_tests, other)

-- digits are no separator
pub digits_lack : (c : ℕ) (text : List ℕ) → (57 < c) ⊎ (c < 48) → are_digits text ≡ true → Lacks c text
digits_lack c text other all = λ k d h.
    digit_is_other _ c (AllPass-from_list_all (λ (x : ℕ). is_within 48 57 x) text all k d h) other

pub padded_digits : (n x : ℕ) → are_digits (padded_decimal n x) ≡ true
padded_digits zero x = refl
padded_digits (suc n) x =
    let high : 48 + x / 10 ^ n % 10 ≤ 57 = omega (arith, mod_below (x / 10 ^ n) 10 (omega arith)) in
    rw (within_yes 48 57 (48 + x / 10 ^ n % 10) (omega arith) high) (padded_digits n x)

pub padded_length : (n x : ℕ) → length (padded_decimal n x) ≡ n
padded_length zero x = refl
padded_length (suc n) x = omega (arith, padded_length n x)

pub padded_lack : (c n x : ℕ) → (57 < c) ⊎ (c < 48) → Lacks c (padded_decimal n x)
padded_lack c n x other = digits_lack c (padded_decimal n x) other (padded_digits n x)

-- ---- the number that digits spell
abbrev spelled : ℕ → List ℕ → ℕ
spelled a xs = fold (λ n c. 10 * n + (c - 48)) a xs

-- one digit more before those that spell r
one_before : (a d p r s t : ℕ) → s ≡ (10 * a + d) * p + r → t ≡ (10 * 0 + d) * p + r → s ≡ a * (10 * p) + t
one_before a d p r s t e f = omega arith

longer : (x : ℕ) (xs : List ℕ) → 10 ^ length (x ∷ xs) ≡ 10 * 10 ^ length xs
longer x xs = pow-suc 10 (length xs) ∙ omega arith

spelled_from : (a : ℕ) (xs : List ℕ) → spelled a xs ≡ a * 10 ^ length xs + number_of xs
spelled_from a [] = omega arith
spelled_from a (x ∷ xs) =
    one_before a (x - 48) (10 ^ length xs) (number_of xs) (spelled a (x ∷ xs)) (number_of (x ∷ xs))
    (spelled_from (10 * a + (x - 48)) xs) (spelled_from (10 * 0 + (x - 48)) xs)
    ∙ ap (λ (n : ℕ). a * n + number_of (x ∷ xs)) (sym (longer x xs))

pub number_below : (xs : List ℕ) → are_digits xs ≡ true → number_of xs < 10 ^ length xs
number_below [] all = omega arith
number_below (x ∷ xs) all =
    let both = and_parts (is_within 48 57 x) (are_digits xs) all in
    let digit = within_is 48 57 x both.0 in
    let power : 10 ^ length (x ∷ xs) ≡ 10 * 10 ^ length xs = longer x xs in
    let rest = number_below xs both.1 in
    let few : 10 * 0 + (x - 48) < 10 = omega (arith, digit) in
    let is : number_of (x ∷ xs) ≡ (10 * 0 + (x - 48)) * 10 ^ length xs + number_of xs =
    spelled_from (10 * 0 + (x - 48)) xs in
    omega (arith, is, power, mul-add-lt (10 * 0 + (x - 48)) (10 ^ length xs) (number_of xs) 10 few rest)

-- the digits of the number that digits spell are these
pub padded_back : (a : ℕ) (xs : List ℕ) → are_digits xs ≡ true → padded_decimal (length xs) (spelled a xs) ≡ xs
padded_back a [] all = refl
padded_back a (x ∷ xs) all =
    let both = and_parts (is_within 48 57 x) (are_digits xs) all in
    let digit = within_is 48 57 x both.0 in
    let next : ℕ = 10 * a + (x - 48) in
    let front : spelled next xs / 10 ^ length xs ≡ next =
    ap (λ (n : ℕ). n / 10 ^ length xs) (spelled_from next xs)
    ∙ div-mul-add next (10 ^ length xs) (number_of xs) (number_below xs both.1) in
    let first : 48 + spelled next xs / 10 ^ length xs % 10 ≡ x =
    ap (λ (n : ℕ). 48 + n % 10) front ∙ (let e : 48 + (10 * a + (x - 48)) % 10 ≡ x = omega (arith, digit) in e) in
    let rest = padded_back next xs both.1 in
    λ i. first i ∷ rest i

pub number_of-2 : (x : ℕ) → x < 100 → number_of (padded_decimal 2 x) ≡ x
number_of-2 x h = omega arith

pub number_of-6 : (x : ℕ) → x < 1_000_000 → number_of (padded_decimal 6 x) ≡ x
number_of-6 x h = omega arith

-- ---- a number within bounds
pub number_in-padded : (count low high x : ℕ) → number_of (padded_decimal count x) ≡ x → low ≤ x → x ≤ high
    → number_in count low high (padded_decimal count x) ≡ Some x
number_in-padded count low high x e l h =
    let same : eqb count count ≡ true = grind (arith, nat_tests) in
    rw (padded_length count x, same, padded_digits count x, e, within_yes low high x l h) refl

pub record IsNumber (count low high : ℕ) (text : List ℕ) (x : ℕ) : Type 0 where
  pub text_is : text ≡ padded_decimal count x
  pub least : low ≤ x
  pub most : x ≤ high

pub number_in-is : (count low high : ℕ) (text : List ℕ) (x : ℕ) → number_in count low high text ≡ Some x
    → IsNumber count low high text x
number_in-is count low high text x e =
    let both =
    some_by (eqb (length text) count && are_digits text && is_within low high (number_of text))
    (number_of text) x e in
    let tests =
    and_parts (eqb (length text) count && are_digits text) (is_within low high (number_of text)) both.0 in
    let shape = and_parts (eqb (length text) count) (are_digits text) tests.0 in
    let long : length text ≡ count = eqb-true (length text) count shape.0 in
    let range = within_is low high (number_of text) tests.1 in
    record {
      text_is = rw (← both.1, ← long) (sym (padded_back 0 text shape.1));
      least = omega (arith, range, both.1);
      most = omega (arith, range, both.1);
    }

-- ---- fractions
-- one to six digits after the point, which zeros fill up to six
pub record IsFraction (text : List ℕ) (micros : ℕ) : Type 0 where
  pub zeros : ℕ
  pub few : zeros ≤ 5
  pub below : micros < 1_000_000
  pub whole : text ++ replicate zeros 48 ≡ padded_decimal 6 micros

zeros_spell : (j : ℕ) → number_of (replicate j 48) ≡ 0
zeros_spell zero = refl
zeros_spell (suc j) = zeros_spell j

zero_digits : (j : ℕ) → are_digits (replicate j 48) ≡ true
zero_digits zero = refl
zero_digits (suc j) = zero_digits j

spelled_append : (a : ℕ) (xs ys : List ℕ) → spelled a (xs ++ ys) ≡ spelled (spelled a xs) ys
spelled_append a [] ys = refl
spelled_append a (x ∷ xs) ys = spelled_append (10 * a + (x - 48)) xs ys

number_zeros : (xs : List ℕ) (j : ℕ) → number_of (xs ++ replicate j 48) ≡ number_of xs * 10 ^ j
number_zeros xs j =
    rw (spelled_append 0 xs (replicate j 48), spelled_from (number_of xs) (replicate j 48))
    (rw (length-replicate {A = ℕ} j 48, zeros_spell j) (omega arith))

pub fraction_of-is : (text : List ℕ) (micros : ℕ) → fraction_of text ≡ Some micros
    → IsFraction text micros × (are_digits text ≡ true)
fraction_of-is text micros e =
    let both = some_by (is_within 1 6 (length text) && are_digits text) (number_of text * 10 ^
    (6 - length text)) micros e in
    let tests = and_parts (is_within 1 6 (length text)) (are_digits text) both.0 in
    let long = within_is 1 6 (length text) tests.0 in
    let j : ℕ = 6 - length text in
    let all : List ℕ = text ++ replicate j 48 in
    let digits : are_digits all ≡ true =
    rw (list_all-append (λ c. is_within 48 57 c) text (replicate j 48), tests.1) (zero_digits j) in
    let six : length all ≡ 6 = omega (arith, long, length-append {A = ℕ}, length-replicate {A = ℕ}) in
    let number : number_of all ≡ micros = number_zeros text j ∙ both.1 in (
      record {
        zeros = j;
        few = omega (arith, long);
        below = rw (number, six) at (number_below all digits);
        whole = rw (six, number) at (sym (padded_back 0 all digits));
      },
      tests.1,
    )

pub fraction_digits : (text : List ℕ) (micros : ℕ) → IsFraction text micros → are_digits text ≡ true
fraction_digits text micros f =
    (and_parts (are_digits text) (are_digits (replicate f.zeros 48))
    (rw (← list_all-append (λ c. is_within 48 57 c) text (replicate f.zeros 48), f.whole) (padded_digits 6 micros))).0

pub fraction_of-back : (text : List ℕ) (micros : ℕ) → IsFraction text micros → fraction_of text ≡ Some micros
fraction_of-back text micros f =
    let whole = ap (λ (xs : List ℕ). length xs) f.whole in
    let six : length text + f.zeros ≡ 6 =
    omega (arith, length-append {A = ℕ}, length-replicate {A = ℕ}, whole, padded_length 6 micros) in
    let number : number_of text * 10 ^ f.zeros ≡ micros =
    sym (number_zeros text f.zeros) ∙ ap (λ (xs : List ℕ). number_of xs) f.whole ∙ number_of-6 micros f.below in
    let power : 10 ^ f.zeros ≡ 10 ^ (6 - length text) =
    ap (λ (n : ℕ). 10 ^ n) (let e : f.zeros ≡ 6 - length text = omega (arith, six) in e) in
    sym (fraction_is text (number_of text) (10 ^ f.zeros) (omega (arith, six, f.few)) (omega (arith, six))
    (fraction_digits text micros f) refl power) ∙ ap (λ (n : ℕ). Some n) number
