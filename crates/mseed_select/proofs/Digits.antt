-- Numbers by their digits.
use Rattle.std.proofs.Common.{refl, ◌≡◌, ℕ, ◌+◌, ◌-◌, ◌*◌, ◌^◌, ◌<◌, ◌≤◌, sym, ap, ◌∙◌, arith, true}
use Rattle.std.proofs.Common.{List, length, take, get_or, Some}
use Rattle.std.proofs.lemmas.Grind.{pow_more}
use Rattle.std.proofs.lemmas.List.Sums.{AllPass-from_list_all, fold_more}
use Rattle.std.proofs.Math.Nat.{pow-le-pow_right}
use Rattle.mseed_time.specs.Btime.{is_within}
use Rattle.mseed_time.proofs.Dating.{within_is, within_yes}
use Rattle.mseed_select.specs.Word.{are_digits, fraction_of, number_of}

-- each of them is a digit
pub digit_at : (xs : List ℕ) (i : ℕ) → are_digits xs ≡ true → i < length xs
    → (48 ≤ get_or xs i 0) × (get_or xs i 0 ≤ 57)
digit_at xs i all h = within_is 48 57 _ (AllPass-from_list_all (λ (x : ℕ). is_within 48 57 x) xs all i 0 h)

-- five digits give less than 100,000
pub small : (n i : ℕ) → n < 10 ^ i → i ≤ 5 → n < 100_000
small n i h few =
    let most : 10 ^ i ≤ 10 ^ 5 =
    pow-le-pow_right {n = 10} (omega arith) {i = i} {j = 5} few in omega (arith, h, most)

-- one digit more
pub number_more : (xs : List ℕ) (i n : ℕ) → i < length xs → n ≡ number_of (take i xs)
    → 10 * n + (get_or xs i 0 - 48) ≡ number_of (take (i + 1) xs)
number_more xs i n h e = ap (λ (m : ℕ). 10 * m + (get_or xs i 0 - 48)) e
    ∙ sym (fold_more {X = ℕ} {Y = ℕ} (λ m c. 10 * m + (c - 48)) 0 xs i 0 h)

pub bound_more : (n i d : ℕ) → n < 10 ^ i → 48 ≤ d → d ≤ 57 → 10 * n + (d - 48) < 10 ^ (i + 1)
bound_more n i d h low high = omega (arith, h, low, high, pow_more 10 i)

-- the microseconds of some digits after a point
pub fraction_is : (text : List ℕ) (n scale : ℕ) → 1 ≤ length text → length text ≤ 6 → are_digits text ≡ true
    → n ≡ number_of text → scale ≡ 10 ^ (6 - length text) → Some (n * scale) ≡ fraction_of text
fraction_is text n scale low high digits number power =
    rw (number, power, within_yes 1 6 (length text) low high, digits) refl
