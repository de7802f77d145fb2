-- Numbers in hexadecimal digits, and those that `clap` reads.
use Rattle.std.proofs.Common.{◌≡◌, ℕ, ◌≤◌, ◌<◌, ◌^◌, ap, ◌∙◌, refl, arith, cond, Bool, true}
use Rattle.std.proofs.Common.{false, List, [], ◌∷◌, length, Some, None, Result, Ok, Err}
use Rattle.std.proofs.lemmas.Grind.{common_steps}
use Rattle.std.proofs.lemmas.Bool.{ne_eqb, le-leb}
use Rattle.std.proofs.lemmas.Int.Digits.{digits_value-lt}
use Rattle.std.proofs.Math.Nat.{pow-le-pow_right}
use Rattle.std.specs.Result.{result_ok}
use Rattle.std.specs.List.{list_all}
use Rattle.std.specs.Char.{digit_value, is_ascii_hexdigit}
use Rattle.std.specs.Str.Parse.{AllDigits, IsNumeral, ParsesUnsigned, digits_value, without_leading_plus}
use Rattle.clap.proofs.ValueTestLemmas.{Accepts-accepts, accepts-Accepts}
use Rattle.clap.proofs.WalkLemmas.{both}
use Rattle.clap.specs.ValueTests.{is_unsigned_in}
use Rattle.clap.specs.declared.builder.value_parser.ValueParser.TheVariants.{Unsigned}
use Rattle.mseed_words.specs.Numbers.{counted_in, hexadecimal_in}

small_digit : (c : ℕ) → is_ascii_hexdigit c ≡ true → digit_value c < 16
small_digit c e = grind (arith, common_steps, e)

hex_digits : (text : List ℕ) → list_all is_ascii_hexdigit text ≡ true → AllDigits 16 text
hex_digits [] e = tt
hex_digits (c ∷ cs) e =
    let parts = both _ _ e in
    (small_digit c parts.0, hex_digits cs parts.1)

no_plus : (text : List ℕ) → list_all is_ascii_hexdigit text ≡ true → without_leading_plus text ≡ text
no_plus [] e = refl
no_plus (c ∷ cs) e =
    let digit : is_ascii_hexdigit c ≡ true = (both _ _ e).0 in
    rw (ne_eqb c 43 (λ same. cc (rw same at digit))) refl

-- they are less than 2^24
pub hex_small : (text : List ℕ) → length text ≤ 6 → list_all is_ascii_hexdigit text ≡ true
    → digits_value 16 text < 2 ^ 24
hex_small text short all =
    let low : digits_value 16 text < 16 ^ length text = digits_value-lt 16 text (hex_digits text all) in
    let high : 16 ^ length text ≤ 16 ^ 6 = pow-le-pow_right {n = 16} (omega arith) short in
    omega (arith, low, high)

-- a text of hexadecimal digits parses as what they say
pub hex_parsed : {E : Type 0} (text : List ℕ) (r : Result ℕ E) → 1 ≤ length text → length text ≤ 6
    → list_all is_ascii_hexdigit text ≡ true
    → ParsesUnsigned 32 16 text r → result_ok r ≡ Some (digits_value 16 text)
hex_parsed text (Ok n) some short all h = ap Some (h.1 ∙ ap (digits_value 16) (no_plus text all))
hex_parsed text (Err e) some short all h =
    let same : without_leading_plus text ≡ text = no_plus text all in
    absurd (h (rw same (some, hex_digits text all), rw same (omega (arith, hex_small text short all))))

pub hex_is : (text : List ℕ) → 1 ≤ length text → length text ≤ 6 → list_all is_ascii_hexdigit text ≡ true
    → hexadecimal_in text ≡ Some (digits_value 16 text)
hex_is text some short all = rw (le-leb _ _ some, le-leb _ _ short, all) refl

-- what is read as a number in the range
pub counted_some : (most n : ℕ) (text : List ℕ)
    → (IsNumeral 10 (without_leading_plus text) × (digits_value 10 (without_leading_plus text) < 2 ^ 32))
    → n ≡ digits_value 10 (without_leading_plus text) → 1 ≤ n → n ≤ most → Some n ≡ counted_in most text
counted_some most n text numeral is low high =
    let within : is_unsigned_in 1 most text ≡ true =
    Accepts-accepts false (Unsigned 1 most) text (
      numeral.0,
      omega (arith, numeral.1),
      omega (arith, is, low),
      omega (arith, is, high),
    ) in
    rw (is, within) refl

pub counted_none : (most : ℕ) (text : List ℕ) → most < 2 ^ 32
    → ¬ (IsNumeral 10 (without_leading_plus text) × (digits_value 10 (without_leading_plus text) < 2 ^ 32))
    → None ≡ counted_in most text
counted_none most text small fails = go (is_unsigned_in 1 most text) refl
  where
    go : (b : Bool) → is_unsigned_in 1 most text ≡ b
        → None ≡ cond b (Some (digits_value 10 (without_leading_plus text))) None
    go false e = refl
    go true e =
        let within = accepts-Accepts false (Unsigned 1 most) text e in
        absurd (fails (within.0, omega (arith, within.3, small)))
