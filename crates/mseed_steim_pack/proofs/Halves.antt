-- Numbers of 16 bits in lanes of 32.
use Rattle.std.proofs.Common.{◌≡◌, ℕ, ℤ, zero, suc, ◌+◌, ◌*◌, ◌%◌, ◌/◌, ◌<◌, List, [], ◌∷◌, length, map, refl, ap, ◌∙◌}
use Rattle.std.proofs.Common.{◌++◌, ◌^◌, ◌-◌, ◌≤◌, bit_and, get_or, lit<, sym, arith, pos, of_z, to_z}
use Rattle.std.proofs.Common.{w16, w32, FitsSigned}
use Rattle.std.proofs.lemmas.Int.{to_z-of_z}
use Rattle.std.proofs.lemmas.List.{length-map, map-id}
use lib.Lanes.{number_l, digits_l, Each1, zip2, chunk, pick_l}
use Rattle.mseed_steim_pack.proofs.Lanes.{each_map, same_maps}
use Rattle.mseed_steim_pack.specs.private.Rows.{masks_of}
use Rattle.std.proofs.lemmas.Simd.{map-map, zip2_splat}
use Rattle.std.proofs.lemmas.Simd.{pick_l-range_with_len}
use Rattle.std.proofs.lemmas.Nat.{pow_pos}
use Rattle.std.proofs.Math.Nat.{pow-le-pow_right}
use Rattle.mseed_steim.specs.Spelling.{residue}
use Rattle.mseed_steim.proofs.Words.{residue_lt}
use Rattle.mseed_steim_pack.specs.private.Ahead.{bits_of, size_of}
use Rattle.mseed_steim_pack.proofs.Joins.{bits_are, half_digit_of}

-- a number's four bytes are the number
split : (m y rest : ℕ) → y < 4294967296
    → number_l 256 (digits_l 256 (suc (suc (suc (suc m)))) (y + 4294967296 * rest))
    ≡ y + 4294967296 * number_l 256 (digits_l 256 m rest)
split m y rest small = search (arith)

pub read_back : (n : ℕ) (ys : List ℕ) → length ys ≡ n → Each1 (λ y. y < 4294967296) ys
    → digits_l 4294967296 n (number_l 256 (digits_l 256 (4 * n) (number_l 4294967296 ys))) ≡ ys
read_back n [] e h = rw (← e) refl
read_back zero (y ∷ ys) e h = absurd (omega (arith, e))
read_back (suc n) (y ∷ ys) e h =
    let four : 4 * suc n ≡ suc (suc (suc (suc (4 * n)))) = omega arith in
    let later = read_back n ys (omega (arith, e)) h.1 in
    let cut = split (4 * n) y (number_l 4294967296 ys) h.0 in
    let whole = number_l 256 (digits_l 256 (4 * n) (number_l 4294967296 ys)) in
    let low : (y + 4294967296 * whole) % 4294967296 ≡ y = omega (arith, h.0) in
    let high : (y + 4294967296 * whole) / 4294967296 ≡ whole = omega (arith, h.0) in
    rw (four, cut, low, high) (ap (λ (zs : List ℕ). y ∷ zs) later)

-- the bits of numbers of 16
pub fits : (z : ℤ) → size_of z < 32768 → FitsSigned w16 z
fits z h = search (arith)

pub widened : (zs : List ℤ) → Each1 (λ z. size_of z < 32768) zs
    → map (λ x. of_z w32 (to_z w16 x)) (map (of_z w16) zs) ≡ map bits_of zs
widened zs h = map-map (λ x. of_z w32 (to_z w16 x)) (of_z w16) zs ∙ same_maps (λ z. size_of z < 32768) _ bits_of
    (λ z small. ap (of_z w32) (to_z-of_z w16 z (fits z small)) ∙ bits_are z) zs h

bits_small : (z : ℤ) → size_of z < 32768 → bits_of z < 4294967296
bits_small z h = search (arith)

pub bits_again : (n : ℕ) (zs : List ℤ) → length zs ≡ n → Each1 (λ z. size_of z < 32768) zs
    → digits_l 4294967296 n (number_l 256 (digits_l 256 (4 * n) (number_l 4294967296
    (map (λ x. of_z w32 (to_z w16 x)) (map (of_z w16) zs))))) ≡ map bits_of zs
bits_again n zs e h = rw (widened zs h) (read_back n (map bits_of zs) (length-map zs bits_of ∙ e)
    (each_map (λ z. size_of z < 32768) (λ y. y < 4294967296) bits_of bits_small zs h))

-- the low bits of numbers of 16
pub low_digits : (w : ℕ) (ds ms : List ℤ) → w ≤ 15 → ms ≡ map pos (masks_of w) → length ds ≡ 8
    → Each1 (λ z. size_of z < 32768) ds
    → map (to_z w16) (zip2 (λ a b. bit_and a b) (map (of_z w16) ds) (map (of_z w16) ms))
    ≡ map (λ d. pos (residue (2 ^ w) d)) ds
low_digits w ds ms h masks long small =
    let mask = of_z w16 (pos (2 ^ w - 1)) in
    let splat = zip2_splat (λ a b. bit_and a b) (map (of_z w16) ds) 8 mask (length-map ds (of_z w16) ∙ long) in
    let signed = map-map (to_z w16) (λ d. bit_and (of_z w16 d) mask) ds in
    rw (masks, splat, map-map (λ a. bit_and a mask) (of_z w16) ds, signed) (same_maps (λ z. size_of z < 32768) _ _
    (λ d near. half_digit_of w d (pos (2 ^ w - 1)) h (fits d near) refl) ds small)

pub digits_small : (w : ℕ) (ds : List ℤ) → w ≤ 15 → Each1 (λ z. size_of z < 32768) ds
    → Each1 (λ z. size_of z < 32768) (map (λ d. pos (residue (2 ^ w) d)) ds)
digits_small w ds h small =
    let most : 2 ^ w ≤ 2 ^ 15 = pow-le-pow_right (lit< tt) h in
    each_map (λ z. size_of z < 32768) (λ z. size_of z < 32768) (λ d. pos (residue (2 ^ w) d))
    (λ d near. omega (arith, residue_lt (2 ^ w) d (pow_pos w), most)) ds small

pub digit_bits : (w : ℕ) (ds : List ℤ) → map bits_of (map (λ d. pos (residue (2 ^ w) d)) ds)
    ≡ map (λ d. residue (2 ^ w) d) ds
digit_bits w ds = map-map bits_of (λ d. pos (residue (2 ^ w) d)) ds

-- eight of a list
pub eight_of : (xs : List ℤ) → 8 ≤ length xs → chunk 0 8 xs ≡ get_or xs 0 (pos 0) ∷ get_or xs 1 (pos 0)
    ∷ get_or xs 2 (pos 0) ∷ get_or xs 3 (pos 0) ∷ get_or xs 4 (pos 0) ∷ get_or xs 5 (pos 0) ∷ get_or xs 6 (pos 0)
    ∷ get_or xs 7 (pos 0) ∷ []
eight_of xs h = sym (pick_l-range_with_len (pos 0) xs 0 8 h)

pub small_of : (z : ℤ) → FitsSigned w16 z → size_of z < 32768
small_of z h = search (arith)

pub same_again : (zs : List ℤ) → Each1 (λ z. size_of z < 32768) zs → map (to_z w16) (map (of_z w16) zs) ≡ zs
same_again zs h = map-map (to_z w16) (of_z w16) zs ∙ same_maps (λ z. size_of z < 32768) _ (λ z. z)
    (λ z small. to_z-of_z w16 z (fits z small)) zs h ∙ map-id zs

-- what the pairs of eight numbers count for, by weights, and by what pairs count for
abbrev pub lanes_of : List ℕ → List ℕ → List ℕ → List ℕ → List ℕ
lanes_of xs ws counts heads =
    let products = zip2 (λ a b. a * b % 4294967296) xs ws in
    zip2 (λ a b. (a + b) % 4294967296) (zip2 (λ a b. a * b % 4294967296)
    (zip2 (λ a b. (a + b) % 4294967296) (pick_l 0 (products ++ products) (1 ∷ 3 ∷ 5 ∷ 7 ∷ []))
    (pick_l 0 (products ++ products) (0 ∷ 2 ∷ 4 ∷ 6 ∷ []))) counts) heads
