-- Numbers that are written read back, and what is read is what is written.
use Rattle.std.proofs.Common.{◌≡◌, ℕ, zero, suc, ◌+◌, ◌-◌, ◌*◌, ◌/◌, ◌%◌, ◌^◌, ◌<◌, ◌≤◌, nat_le, List, [], ◌∷◌, ◌++◌}
use Rattle.std.proofs.Common.{Bool, true, false, cond, Option, Some, None, length, take, drop, get_or, ℤ, pos, negsuc}
use Rattle.std.proofs.Common.{refl, sym, ap, ◌∙◌, subst, arith, append_assoc}
use Rattle.std.specs.Prelude.{decimal, nat_eq}
use Rattle.std.specs.Fmt.{signed_decimal}
use Rattle.std.specs.Cmp.Lexicographic.{pointwise, same_text}
use Rattle.std.proofs.lemmas.Bool.Decides.{nat_tests}
use Rattle.std.proofs.lemmas.Fmt.{decimal_digit, decimal_step_wide, decimal_by_steps_wide}
use Rattle.std.proofs.lemmas.List.{take-append-drop}
use Rattle.std.proofs.lemmas.Option.{none-some, same_Some}
use Rattle.std.proofs.Math.Nat.{pow-le-pow_right, pow-succ'}
use Rattle.mseed_join.specs.private.Reading.{◌>>=◌, after, is_digit, more_at, within, number_at, negated}
use Rattle.mseed_join.specs.private.Reading.{integer_at}

-- no digit follows
abbrev pub Ends : List ℕ → Type 0
Ends [] = Unit {0}
Ends (b ∷ bs) = is_digit b ≡ false

pub bind_then : {A B P : Type 0} (o : Option A) (f : A → Option B) (y : B) → (o >>= f) ≡ Some y
    → ((x : A) → o ≡ Some x → f x ≡ Some y → P) → P
bind_then o f y h1 h2 = grind (arith, none-some)

-- ---- words
pub word_after : (word bytes rest : List ℕ) → after word bytes ≡ Some rest → bytes ≡ word ++ rest
word_after word bytes rest e = by (pointwise nat_eq (take (length word) bytes) word) refl e
  where
    by : (b : Bool) → pointwise nat_eq (take (length word) bytes) word ≡ b
        → cond b (Some (drop (length word) bytes)) None ≡ Some rest → bytes ≡ word ++ rest
    by true k h = sym (take-append-drop (length word) bytes)
        ∙ (λ i. same_text (take (length word) bytes) word (sym k) i ++ same_Some (drop (length word) bytes) rest h i)
    by false k h = absurd (cc h)

-- ---- numbers
digit_is : (b : ℕ) → 48 ≤ b → b ≤ 57 → is_digit b ≡ true
digit_is b l h = grind (arith, nat_tests)

is_low : (b : ℕ) → is_digit b ≡ true → 48 ≤ b
is_low b e = grind (arith, nat_tests)

pub is_high : (b : ℕ) → is_digit b ≡ true → b ≤ 57
is_high b e = grind (arith, nat_tests)

-- the first digit isn't 0, and from it on the digits are those of the number
record Chosen (n : ℕ) (ds : List ℕ) : Type 0 where
  first : ℕ
  others : List ℕ
  is : ds ≡ first ∷ others
  low : 49 ≤ first
  high : first ≤ 57
  goes : (rest : List ℕ) → more_at (first - 48) (others ++ rest) ≡ more_at n rest

chosen_one : (n : ℕ) → n < 10 → 0 < n → Chosen n ((48 + n) ∷ [])
chosen_one n h l = search arith

one_more : (m b : ℕ) (rest : List ℕ) → is_digit b ≡ true → more_at m (b ∷ rest) ≡ more_at (10 * m + (b - 48)) rest
one_more m b rest e = ap (λ (t : Bool). cond t (more_at (10 * m + (b - 48)) rest) (m, b ∷ rest)) e

chosen_more : (n : ℕ) (ds : List ℕ) → 10 ≤ n → (0 < n / 10 → Chosen (n / 10) ds) → 0 < n
    → Chosen n (ds ++ (48 + n % 10) ∷ [])
chosen_more n ds l before some = search (arith, append_assoc, one_more, digit_is)

chosen : (n : ℕ) → 0 < n → n < 10 ^ 64 → Chosen n (decimal n)
chosen n some few = decimal_by_steps_wide (λ m ds. 0 < m → Chosen m ds) chosen_one chosen_more n few some

more_ends : (n : ℕ) (rest : List ℕ) → Ends rest → more_at n rest ≡ (n, rest)
more_ends n rest h1 = grind arith

within_is : (largest n : ℕ) (rest : List ℕ) → n ≤ largest → within largest (n, rest) ≡ Some (n, rest)
within_is largest n rest l = grind (arith, nat_tests)

number_from : (largest b : ℕ) (bs : List ℕ) → 49 ≤ b → b ≤ 57
    → number_at largest (b ∷ bs) ≡ within largest (more_at (b - 48) bs)
unfolding number_at
number_from largest b bs l h = search (arith, nat_tests, digit_is)

number_zero : (largest : ℕ) (rest : List ℕ) → number_at largest (48 ∷ rest) ≡ Some (0, rest)
unfolding number_at
number_zero largest rest = refl

-- a number that is written reads back
pub number_back : (largest n : ℕ) (rest : List ℕ) → n ≤ largest → n < 10 ^ 64 → Ends rest
    → number_at largest (decimal n ++ rest) ≡ Some (n, rest)
number_back largest zero rest l few e = search (arith, decimal_digit, number_zero)
number_back largest (suc m) rest l few e =
    let n : ℕ = suc m in
    let c : Chosen n (decimal n) = chosen n (omega arith) few in
    ap (λ (ds : List ℕ). number_at largest (ds ++ rest)) c.is
    ∙ number_from largest c.first (c.others ++ rest) c.low c.high
    ∙ ap (λ (x : ℕ × List ℕ). within largest x) (c.goes rest ∙ more_ends n rest e) ∙ within_is largest n rest l

-- reading on makes it no smaller
grows : (n : ℕ) (bs : List ℕ) → n ≤ (more_at n bs).0
grows n [] = omega arith
grows n (b ∷ bs) = search (arith, grows (10 * n + (b - 48)) bs)

digit_after : (n b : ℕ) → 0 < n → 48 ≤ b → b ≤ 57 → 10 * n + (b - 48) < 10 ^ 64
    → decimal (10 * n + (b - 48)) ≡ decimal n ++ b ∷ []
digit_after n b some l h few = search (arith, decimal_step_wide)

more_after : (n : ℕ) (bs : List ℕ) → 0 < n → (more_at n bs).0 < 10 ^ 64
    → decimal n ++ bs ≡ decimal (more_at n bs).0 ++ (more_at n bs).1
more_after n [] some few = refl
more_after n (b ∷ bs) some few =
    let later = more_after (10 * n + (b - 48)) bs (omega (arith, some)) in
    search (arith, digit_after, is_low, is_high, grows, append_assoc, later)

within_some : (largest : ℕ) (x y : ℕ × List ℕ) → within largest x ≡ Some y → (x ≡ y) × (x.0 ≤ largest)
within_some largest x y e = search (arith, nat_le, nat_tests)

-- what is read is what is written
pub record IsNumber (largest : ℕ) (bytes : List ℕ) (x : ℕ × List ℕ) : Type 0 where
  pub is : bytes ≡ decimal x.0 ++ x.1
  pub bounded : x.0 ≤ largest

pub number_spelled : (largest : ℕ) (bytes : List ℕ) (x : ℕ × List ℕ) → largest < 10 ^ 64
    → number_at largest bytes ≡ Some x → IsNumber largest bytes x
unfolding number_at
number_spelled largest [] x few e = absurd (cc e)
number_spelled largest (b ∷ bs) x few e = by (nat_eq b 48) refl (is_digit b) refl e
  where
    by : (t : Bool) → nat_eq b 48 ≡ t → (u : Bool) → is_digit b ≡ u
        → cond t (Some (0, bs)) (cond u (within largest (more_at (b - 48) bs)) None) ≡ Some x
        → IsNumber largest (b ∷ bs) x
    by true k u d h =
        let value = ap (λ (o : Option (ℕ × List ℕ)). elim o as (λ _. ℕ × List ℕ) [ Some z ↦ z | None ↦ x ]) h in
        let first : b ≡ 48 = grind (arith, nat_tests) in
        subst (λ (y : ℕ × List ℕ). IsNumber largest (b ∷ bs) y) value
        (record {
          is = ap (λ (c : ℕ). c ∷ bs) first
              ∙ ap (λ (ds : List ℕ). ds ++ bs) (sym (decimal_digit 0 (omega arith)));
          bounded = omega arith;
        })
    by false k true d h =
        let read = within_some largest (more_at (b - 48) bs) x h in
        let counts : 0 < b - 48 = grind (arith, nat_tests) in
        let one : decimal (b - 48) ≡ b ∷ [] =
        decimal_digit (b - 48) (omega (arith, is_high b d)) ∙ ap (λ (c : ℕ). c ∷ []) (omega (arith, is_low b d)) in
        subst (λ (y : ℕ × List ℕ). IsNumber largest (b ∷ bs) y) read.0
        (record {
          is = ap (λ (ds : List ℕ). ds ++ bs) (sym one)
              ∙ more_after (b - 48) bs counts (omega (arith, read.1, few));
          bounded = read.1;
        })
    by false k false d h = absurd (cc h)

-- a digit more that doesn't fit
pub passes : (n d most : ℕ) (rest all : List ℕ) → 0 < length rest → is_digit (get_or rest 0 0) ≡ true
    → d ≡ get_or rest 0 0 - 48 → most ≤ 10 * n + d → all ≡ rest → most ≤ (more_at n all).0
passes n d most [] all l e is big same = absurd (omega (arith, l))
passes n d most (b ∷ bs) all l e is big same = search (arith, one_more, grows)

-- ---- digits that fit for sure
pub stays_small : (n count digit : ℕ) → n < 10 ^ (count + 1) → digit < 10
    → 10 * n + digit < 10 ^ (count + 1 + 1)
stays_small n count digit small l =
    let next : count + 1 + 1 ≡ suc (count + 1) = omega arith in
    let power : 10 ^ (count + 1 + 1) ≡ 10 * 10 ^ (count + 1) = search (arith, pow-succ') in
    omega (arith, small, l, power)

-- so many digits, and room for one more
pub has_one : (n count : ℕ) → n < 10 ^ (count + 1) → count + 1 ≤ 16 → n < 10 ^ 16
has_one n count small l = search (arith, pow-le-pow_right)

pub has_two : (n count digit : ℕ) → n < 10 ^ (count + 1) → digit < 10 → count + 2 ≤ 16 → 10 * n + digit < 10 ^ 16
has_two n count digit small d l =
    has_one (10 * n + digit) (count + 1) (stays_small n count digit small d) (omega (arith, l))

-- a number whose first digit isn't 0, with further digits
pub number_on : (largest n count first : ℕ) (bytes tail : List ℕ) → 1 ≤ length bytes → (get_or bytes 0 0 ≡ 48 → ⊥)
    → is_digit (get_or bytes 0 0) ≡ true → tail ≡ drop 1 bytes → first ≡ get_or bytes 0 0 - 48
    → more_at n (drop count tail) ≡ more_at first tail
    → number_at largest bytes ≡ within largest (more_at n (drop (count + 1) bytes))
number_on largest n count first bytes tail h1 h2 h3 h4 h5 h6 = grind (arith, number_from, is_low, is_high)

-- the first digit of a number
pub record Begins (n : ℕ) : Type 0 where
  pub first : ℕ
  pub others : List ℕ
  pub is : decimal n ≡ first ∷ others
  pub low : 48 ≤ first
  pub high : first ≤ 57

pub begins : (n : ℕ) → n < 10 ^ 64 → Begins n
begins zero few =
    record { first = 48; others = []; is = decimal_digit 0 (omega arith); low = omega arith; high = omega arith }
begins (suc m) few =
    let c = chosen (suc m) (omega arith) few in
    record { first = c.first; others = c.others; is = c.is; low = omega (arith, c.low); high = c.high }

-- within these sizes, below 0 and above
abbrev pub IsWithin : ℕ → ℕ → ℤ → Type 0
IsWithin below above (pos n) = n ≤ above
IsWithin below above (negsuc n) = n < below

integer_from : (below above b : ℕ) (bs : List ℕ) (x : ℕ × List ℕ) → 48 ≤ b → number_at above (b ∷ bs) ≡ Some x
    → integer_at below above (b ∷ bs) ≡ Some (pos x.0, x.1)
unfolding integer_at
integer_from below above b bs x l e = search (arith, nat_tests)

integer_minus : (below above : ℕ) (bs : List ℕ) → integer_at below above (45 ∷ bs) ≡ (number_at below bs >>= negated)
unfolding integer_at
integer_minus below above bs = refl

pub integer_back : (below above : ℕ) (z : ℤ) (rest : List ℕ) → below < 10 ^ 64 → above < 10 ^ 64
    → IsWithin below above z
    → Ends rest → integer_at below above (signed_decimal z ++ rest) ≡ Some (z, rest)
integer_back below above (pos n) rest low high l e =
    let b : Begins n = begins n (omega (arith, l, high)) in
    let read = ap (λ (ds : List ℕ). number_at above (ds ++ rest)) (sym b.is)
    ∙ number_back above n rest l (omega (arith, l, high)) e in
    ap (λ (ds : List ℕ). integer_at below above (ds ++ rest)) b.is
    ∙ integer_from below above b.first (b.others ++ rest) (n, rest) b.low read
integer_back below above (negsuc n) rest low high l e =
    search (arith, integer_minus, number_back)

-- an integer that was read stands before it
abbrev pub IsInteger : ℕ → ℕ → List ℕ → ℤ × List ℕ → Type 0
IsInteger below above bytes x = (bytes ≡ signed_decimal x.0 ++ x.1) × IsWithin below above x.0

pub integer_after : (below above : ℕ) (bytes : List ℕ) (x : ℤ × List ℕ) → below < 10 ^ 64 → above < 10 ^ 64
    → integer_at below above bytes ≡ Some x → IsInteger below above bytes x
unfolding integer_at
integer_after below above [] x low high e = absurd (cc e)
integer_after below above (b ∷ bs) x low high e = by (nat_eq b 45) refl e
  where
    less : (y : ℕ × List ℕ) → IsNumber below bs y → b ≡ 45 → negated y ≡ Some x → IsInteger below above (b ∷ bs) x
    less (zero, rest) is k h = absurd (cc h)
    less (suc n, rest) is k h =
        subst (λ (z : ℤ × List ℕ). IsInteger below above (b ∷ bs) z) (same_Some (negsuc n, rest) x h)
        ((λ i. k i ∷ is.is i), omega (arith, is.bounded))

    by : (t : Bool) → nat_eq b 45 ≡ t
        → cond t (number_at below bs >>= negated) (number_at above (b ∷ bs) >>= λ n. Some (pos n.0, n.1)) ≡ Some x
        → IsInteger below above (b ∷ bs) x
    by true k h = bind_then (number_at below bs) negated x h (λ y read given.
        less y (number_spelled below bs y low read) (grind (arith, nat_tests)) given)
    by false k h =
        bind_then (number_at above (b ∷ bs)) (λ n. Some (pos n.0, n.1)) x h (λ y read given.
        let is = number_spelled above (b ∷ bs) y high read in
        rw (← same_Some (pos y.0, y.1) x given) (is.is, is.bounded))
