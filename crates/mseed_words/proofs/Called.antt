-- Words that are among others, and the digits of a number.
use Rattle.std.proofs.Common.{◌≡◌, ℕ, suc, ◌+◌, ◌-◌, ◌*◌, ◌^◌, ◌<◌, ◌||◌, ◌++◌, Bool, List, [], ◌∷◌, length, map}
use Rattle.std.proofs.Common.{take, get_or, refl, sym, ap, ◌∙◌, arith, true}
use Rattle.std.proofs.lemmas.Grind.{common_steps}
use Rattle.std.specs.Borrow.{Bor}
use Rattle.std.specs.List.{list_all, list_any}
use Rattle.std.specs.Str.{bytes_eq}
use Rattle.std.proofs.Math.Nat.{pow-suc, mul_assoc}
use Rattle.std.proofs.lemmas.List.{length-append, take_more}
use Rattle.clap.specs.Walk.{Text}
use Rattle.mseed_words.specs.Found.{is_among}
use Rattle.mseed_words.specs.Numbers.{is_digit, value_of}

-- a digit after others
value_more : (xs : Text) (c : ℕ) → value_of (xs ++ c ∷ []) ≡ value_of xs * 10 + (c - 48)
value_more [] c = omega arith
value_more (x ∷ xs) c =
    let size : length (xs ++ c ∷ []) ≡ length xs + 1 = length-append xs (c ∷ []) in
    let power : 10 ^ length (xs ++ c ∷ []) ≡ 10 ^ length xs * 10 =
    ap (λ (n : ℕ). 10 ^ n) {y = suc (length xs)} (omega (arith, size)) ∙ pow-suc 10 (length xs) in
    let here : (x - 48) * 10 ^ length (xs ++ c ∷ []) ≡ ((x - 48) * 10 ^ length xs) * 10 =
    ap (λ (n : ℕ). (x - 48) * n) power ∙ sym (mul_assoc (x - 48) (10 ^ length xs) 10) in
    let rest : value_of (xs ++ c ∷ []) ≡ value_of xs * 10 + (c - 48) = value_more xs c in
    omega (arith, here, rest)

-- the digits that a loop has passed, with one more
pub digits_more : (ds : Text) (i d : ℕ) → i < length ds
    → value_of (take (i + 1) ds) ≡ value_of (take i ds) * 10 + (get_or ds i d - 48)
digits_more ds i d lt = rw (take_more ds i d lt) (value_more (take i ds) (get_or ds i d))

pub all_more : (ds : Text) (i d : ℕ) → i < length ds → list_all is_digit (take i ds) ≡ true
    → is_digit (get_or ds i d) ≡ true → list_all is_digit (take (i + 1) ds) ≡ true
all_more ds i d lt before is = grind (arith, common_steps, before, is)

-- whether a text is one of these
pub named : (names : List (Bor Text)) (id : Text)
    → is_among (map (λ (n : Bor Text). n.now) names) id ≡ list_any (λ (n : Bor Text). bytes_eq n.now id) names
named [] id = refl
named (n ∷ ns) id = ap (λ (b : Bool). bytes_eq n.now id || b) (named ns id)

pub below : (c : ℕ) → is_digit c ≡ true → c < 58
below c is = grind (arith, common_steps, is)
