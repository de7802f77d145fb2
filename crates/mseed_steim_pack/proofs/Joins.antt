-- Differences side by side in a word.
use Rattle.std.proofs.Common.{◌≡◌, ℕ, suc, ◌+◌, ◌-◌, ◌*◌, ◌/◌, ◌%◌, ◌^◌, ◌<◌, ◌≤◌, List, [], ◌∷◌, ◌++◌, length}
use Rattle.std.proofs.Common.{map, take, get_or, ℤ, pos, negsuc, arith, refl, ap, sym}
use Rattle.std.proofs.Common.{◌∙◌, length-append, bit_and, bit_or, Fits, w16, w32, of_z, to_z, FitsSigned}
use Rattle.std.proofs.Common.{zero-add}
use lib.Lanes.{sum_l}
use Rattle.std.proofs.Math.Nat.{pow-le-pow_right, mod-eq_of_lt, mul-le-mul_left, add-mul}
use Rattle.std.proofs.Math.Nat.{mul-zero}
use Rattle.std.proofs.lemmas.Nat.{one_shl, and_mask, or_shifted, pow_pos, pow-add, shl_whole, shr_below, mod_below}
use Rattle.std.proofs.lemmas.Nat.{mod_low, div-add-mod', mul-mod_first, mul-mod_second}
use Rattle.std.proofs.lemmas.List.{take_more, length-take, length-take-le, get_or-take, drop_all, drop_more}
use Rattle.std.proofs.lemmas.List.{length-drop}
use Rattle.std.proofs.lemmas.Bool.{cases_lt, le-ltb, lt-ltb}
use Rattle.std.specs.List.{range_with_len}
use Rattle.std.proofs.Common.{drop, ⊎_elim}
use Rattle.mseed_steim.specs.Spelling.{residue, positional}
use Rattle.mseed_steim.proofs.Words.{positional_lt, residue_lt}
use Rattle.mseed_steim_pack.specs.declared.layout.LayoutTwo.{LayoutTwo}
use Rattle.mseed_steim_pack.specs.private.Ahead.{bits_of, paired, IsLayoutTwo}
use Rattle.mseed_steim_pack.specs.private.Rows.{place_of, places_of}

-- one more difference
positional_push : (w : ℕ) (ds : List ℤ) (d : ℤ)
    → positional w (ds ++ (d ∷ [])) ≡ positional w ds * 2 ^ w + residue (2 ^ w) d
positional_push w [] d =
    let e : 2 ^ (w * 0) ≡ 1 = ap (λ n. 2 ^ n) (mul-zero w) in
    rw e (omega arith)
positional_push w (x ∷ xs) d =
    let l : length (xs ++ (d ∷ [])) ≡ length xs + 1 = omega (arith, length-append xs (d ∷ [])) in
    let k : positional w (xs ++ (d ∷ [])) ≡ positional w xs * 2 ^ w + residue (2 ^ w) d = positional_push w xs d in
    let e : 2 ^ (w * length xs + w) ≡ 2 ^ (w * length xs) * 2 ^ w = pow-add 2 (w * length xs) w in
    let f : 2 ^ (w * length (xs ++ (d ∷ []))) ≡ 2 ^ (w * length xs) * 2 ^ w = ap (λ n. 2 ^ n) (rw l (omega arith))
    ∙ e in
    rw (f, k) (omega arith)

-- differences of so many bits, and the first of them
below : (w b : ℕ) (ds : List ℤ) → w * length ds ≤ b → positional w ds < 2 ^ b
below w b ds h = search (arith, positional_lt, pow-le-pow_right)

prefix_lt : (w i b : ℕ) (ds : List ℤ) → w * length ds ≤ b → positional w (take i ds) < 2 ^ b
prefix_lt w i b ds h = search (arith, length-take, mul-le-mul_left, positional_lt, pow-le-pow_right)

pub joined_fits : (w : ℕ) (ds : List ℤ) (i word : ℕ) → w * length ds ≤ 32 → word ≡ positional w (take i ds)
    → Fits w32 word
joined_fits w ds i word h e = record { fits = rw e (prefix_lt w i 32 ds h) }

-- a number's low bits in two's complement
low_bits : (b w n : ℕ) → w ≤ b → n < 2 ^ b → (2 ^ b - suc n) % 2 ^ w ≡ 2 ^ w - 1 - n % 2 ^ w
low_bits b w n h small =
    let bits : b - w + w ≡ b = omega (arith, h) in
    let whole : 2 ^ (b - w) * 2 ^ w ≡ 2 ^ b = sym (pow-add 2 (b - w) w) ∙ ap (λ (i : ℕ). 2 ^ i) bits in
    let high : n / 2 ^ w < 2 ^ (b - w) = shr_below n (b - w) w (rw bits small) in
    let low : n % 2 ^ w < 2 ^ w = mod_below n (2 ^ w) (pow_pos w) in
    let left = 2 ^ (b - w) - 1 - n / 2 ^ w in
    let all : left + n / 2 ^ w + 1 ≡ 2 ^ (b - w) = omega (arith, high) in
    let sum : (left + n / 2 ^ w + 1) * 2 ^ w ≡ left * 2 ^ w + n / 2 ^ w * 2 ^ w + 2 ^ w =
    add-mul (left + n / 2 ^ w) 1 (2 ^ w) ∙ (let part = add-mul left (n / 2 ^ w) (2 ^ w) in omega (arith, part)) in
    let total = rw all at sum in
    let cut : n / 2 ^ w * 2 ^ w + n % 2 ^ w ≡ n = div-add-mod' n (2 ^ w) in
    let other : 2 ^ b - suc n ≡ left * 2 ^ w + (2 ^ w - 1 - n % 2 ^ w) = omega (arith, total, whole, cut, low) in
    rw other (mod_low left w (2 ^ w - 1 - n % 2 ^ w) (omega (arith, low)))

digit_of : (w : ℕ) (d : ℤ) → w ≤ 32 → FitsSigned w32 d → of_z w32 d % 2 ^ w ≡ residue (2 ^ w) d
digit_of w (pos n) h f = refl
digit_of w (negsuc n) h f = low_bits 32 w n h (omega (arith, f.sfits))

half_digit : (w : ℕ) (d : ℤ) → w ≤ 16 → FitsSigned w16 d → of_z w16 d % 2 ^ w ≡ residue (2 ^ w) d
half_digit w (pos n) h f = refl
half_digit w (negsuc n) h f = low_bits 16 w n h (omega (arith, f.sfits))

-- a digit of numbers of 16 bits
pub half_digit_of : (w : ℕ) (d m : ℤ) → w ≤ 15 → FitsSigned w16 d → m ≡ pos (2 ^ w - 1)
    → to_z w16 (bit_and (of_z w16 d) (of_z w16 m)) ≡ pos (residue (2 ^ w) d)
half_digit_of w d m h f e = search (arith, and_mask, half_digit, pow-le-pow_right, pow_pos, residue_lt)

pub bits_are : (z : ℤ) → of_z w32 z ≡ bits_of z
bits_are z = search (arith)

pub joined_more : (w : ℕ) (ds : List ℤ) (i word digit : ℕ) → 0 < w → w ≤ 32 → w * length ds ≤ 32 → i < length ds
    → word ≡ positional w (take i ds) → FitsSigned w32 (get_or ds i (pos 0)) → digit ≡ of_z w32 (get_or ds i (pos 0))
    → bit_or (word * 2 ^ w % 2 ^ 64) (bit_and digit (1 * 2 ^ w % 2 ^ 64 - 1)) ≡ positional w (take (i + 1) ds)
joined_more w ds i word digit p n h less e f q =
    let d = get_or ds i (pos 0) in
    let one = one_shl w 64 (omega (arith, n)) in
    let shifted = shl_whole word 32 w 64 (rw e (prefix_lt w i 32 ds h)) (omega (arith, n)) in
    let low = or_shifted word w (residue (2 ^ w) d) (residue_lt (2 ^ w) d (pow_pos w)) in
    let more = take_more ds i (pos 0) less in
    rw (one, shifted, and_mask, q, digit_of w d n f, low, more, positional_push w (take i ds) d, e) refl

-- The first i of c differences have been joined, each for what it counts in the whole: the others are left of it.
abbrev pub Placed : ℕ → ℕ → List ℤ → ℕ → ℕ → Type 0
Placed w c ds i word = (word + positional w (drop i (take c ds))) % 2 ^ 32 ≡ positional w (take c ds) % 2 ^ 32

pub placed_none : (w c : ℕ) (ds : List ℤ) → Placed w c ds 0 0
placed_none w c ds = omega arith

-- one more, which counts for nothing where it's after them
placed_step : (w c i : ℕ) (ds : List ℤ) (word digit place : ℕ) → c ≤ length ds → Placed w c ds i word
    → digit ≡ residue (2 ^ w) (get_or ds i (pos 0)) → place ≡ place_of w c i
    → Placed w c ds (i + 1) ((word + digit * place % 2 ^ 32) % 2 ^ 32)
placed_step w c i ds word digit place inside e digit_is place_is =
    let prefix = take c ds in
    let long : length prefix ≡ c = length-take-le c ds inside in
    ⊎_elim
    (λ (less : i < c).
    let at : drop i prefix ≡ get_or ds i (pos 0) ∷ drop (i + 1) prefix =
    rw (get_or-take c ds i (pos 0) less) at (drop_more prefix i (pos 0) (omega (arith, long, less))) in
    let count : length (drop (i + 1) prefix) ≡ c - 1 - i = omega (arith, length-drop (i + 1) prefix, long) in
    let next : positional w (drop i prefix) ≡ digit * place + positional w (drop (i + 1) prefix) =
    rw (at, count, digit_is, place_is, lt-ltb i c less) refl in
    omega (arith, e, next))
    (λ (over : c ≤ i).
    let none : place ≡ 0 = rw (place_is, le-ltb i c over) refl in
    let here : drop i prefix ≡ [] = drop_all i prefix (omega (arith, long, over)) in
    let after : drop (i + 1) prefix ≡ [] = drop_all (i + 1) prefix (omega (arith, long, over)) in
    rw (none, after) (omega (arith, rw here at e)))
    (cases_lt i c)

pub placed_next : (w c i : ℕ) (ds : List ℤ) (word digit mask place : ℕ) → w ≤ 32 → c ≤ length ds
    → Placed w c ds i word → FitsSigned w32 (get_or ds i (pos 0)) → digit ≡ of_z w32 (get_or ds i (pos 0))
    → mask ≡ 2 ^ w - 1 → place ≡ place_of w c i
    → Placed w c ds (i + 1) ((word + bit_and digit mask * place % 2 ^ 32) % 2 ^ 32)
placed_next w c i ds word digit mask place n inside e f q m h = search (arith, and_mask, digit_of, placed_step)

-- two products of a pair, by what the pair counts for
pair_is : (a b u v n p q : ℕ) → u * n % 4294967296 ≡ p → v * n % 4294967296 ≡ q
    → (b * v % 4294967296 + a * u % 4294967296) % 4294967296 * n % 4294967296
    ≡ (a * p % 4294967296 + b * q % 4294967296) % 4294967296
pair_is a b u v n p q e f =
    let both : (b * v % 4294967296 + a * u % 4294967296) % 4294967296 ≡ (b * v + a * u) % 4294967296 = omega arith in
    let first = rw e at (mul-mod_second a (u * n) 4294967296) in
    let second = rw f at (mul-mod_second b (v * n) 4294967296) in
    rw both (omega (arith, mul-mod_first (b * v + a * u) n 4294967296, first, second))

pub placed_pair : (w c i : ℕ) (ds : List ℤ) (word u v n : ℕ) → c ≤ length ds → Placed w c ds i word
    → u * n % 4294967296 ≡ place_of w c i → v * n % 4294967296 ≡ place_of w c (i + 1)
    → Placed w c ds (i + 2) ((word + (residue (2 ^ w) (get_or ds (i + 1) (pos 0)) * v % 4294967296
    + residue (2 ^ w) (get_or ds i (pos 0)) * u % 4294967296) % 4294967296 * n % 4294967296) % 4294967296)
placed_pair w c i ds word u v n inside e a b =
    let d = residue (2 ^ w) (get_or ds i (pos 0)) in
    let z = residue (2 ^ w) (get_or ds (i + 1) (pos 0)) in
    let first = placed_step w c i ds word d (place_of w c i) inside e refl refl in
    let second = placed_step w c (i + 1) ds _ z (place_of w c (i + 1)) inside first refl refl in
    let at : i + 1 + 1 ≡ i + 2 = omega arith in
    omega (arith, rw at at second, pair_is d z u v n (place_of w c i) (place_of w c (i + 1)) a b)

-- all of them have been joined
placed_all : (w c : ℕ) (ds : List ℤ) (i word : ℕ) → c ≤ i → Placed w c ds i word
    → word % 2 ^ 32 ≡ positional w (take c ds) % 2 ^ 32
placed_all w c ds i word over e =
    omega (arith, rw (drop_all i (take c ds) (omega (arith, over, length-take c ds))) at e)

pub placed_whole : (w c : ℕ) (ds : List ℤ) (i word : ℕ) → w * c ≤ 32 → c ≤ length ds → word < 2 ^ 32 → c ≤ i
    → Placed w c ds i word → word ≡ positional w (take c ds)
placed_whole w c ds i word room inside small over e =
    omega (arith, placed_all w c ds i word over e, small, below w 32 (take c ds) (rw (length-take-le c ds inside) room))

-- a dnib above them
pub dnib_joined : (dnib w : ℕ) (ds : List ℤ) → dnib < 4 → w * length ds ≤ 32 → (0 < dnib → w * length ds ≤ 30)
    → bit_or (dnib * 1073741824 % 4294967296) (positional w ds) ≡ dnib * 1073741824 + positional w ds
dnib_joined dnib w ds h room apart = ⊎_elim
    (λ (some : 0 < dnib).
    let whole : dnib * 1073741824 % 4294967296 ≡ dnib * 2 ^ 30 = mod-eq_of_lt (omega (arith, h)) in
    rw whole (or_shifted dnib 30 (positional w ds) (below w 30 ds (apart some))))
    (λ (none : dnib ≤ 0). let zero : dnib ≡ 0 = omega (arith, none) in rw zero (sym (zero-add (positional w ds))))
    (cases_lt 0 dnib)

-- both are of 32 bits
pub dnib_below : (dnib w : ℕ) (ds : List ℤ) → dnib < 4 → w * length ds ≤ 32 → (0 < dnib → w * length ds ≤ 30)
    → dnib * 1073741824 + positional w ds < 4294967296
dnib_below dnib w ds h room apart = ⊎_elim (λ (some : 0 < dnib). omega (arith, h, below w 30 ds (apart some)))
    (λ (none : dnib ≤ 0). omega (arith, none, below w 32 ds room)) (cases_lt 0 dnib)

sums_are : (h p q r s word : ℕ)
    → word % 4294967296
    ≡ ((((0 + p) % 4294967296 + q) % 4294967296 + r) % 4294967296 + s) % 4294967296 % 4294967296
    → ((p + h) % 4294967296 + ((q + 0) % 4294967296 + ((r + 0) % 4294967296 + ((s + 0) % 4294967296 + 0)))) % 4294967296
    ≡ (h + word) % 4294967296
sums_are h p q r s word e = omega (arith, e)

-- what the pairs of a word count for, with the dnib beside the first
pub parts_joined : (layout : LayoutTwo) (cut : List ℤ) → IsLayoutTwo layout → layout.row.count ≤ 8
    → layout.row.count ≤ length cut
    → sum_l (map (λ pair. (paired layout cut pair + get_or layout.heads pair 0) % 4294967296) (0 ∷ 1 ∷ 2 ∷ 3 ∷ []))
    % 4294967296
    ≡ (layout.row.dnib * 1073741824 + positional layout.row.width (take layout.row.count cut)) % 4294967296
parts_joined layout cut is few inside =
    let w = layout.row.width in
    let n = layout.row.count in
    let weight : ℕ → ℕ = λ i. bits_of (get_or layout.weights i (pos 0)) in
    let at : (i : ℕ) → get_or (map (λ k. weight k * get_or layout.counts (k / 2) 0 % 2 ^ 32) (range_with_len 0 8)) i 0
    ≡ get_or (places_of w n) i 0 = λ i. ap (λ (l : List ℕ). get_or l i 0) is.places in
    let one = placed_pair w n 0 cut 0 (weight 0) (weight 1) (get_or layout.counts 0 0) inside (placed_none w n cut)
    (at 0) (at 1) in
    let two = placed_pair w n 2 cut _ (weight 2) (weight 3) (get_or layout.counts 1 0) inside one (at 2) (at 3) in
    let three = placed_pair w n 4 cut _ (weight 4) (weight 5) (get_or layout.counts 2 0) inside two (at 4) (at 5) in
    let four = placed_pair w n 6 cut _ (weight 6) (weight 7) (get_or layout.counts 3 0) inside three (at 6) (at 7) in
    rw is.heads (sums_are (layout.row.dnib * 1073741824) (paired layout cut 0) (paired layout cut 1)
    (paired layout cut 2) (paired layout cut 3) (positional w (take n cut)) (sym (placed_all w n cut 8 _ few four)))
