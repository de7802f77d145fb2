-- The most differences of the words that hold a size, by two tables.
use Rattle.std.proofs.Common.{◌≡◌, ℕ, ◌+◌, ◌-◌, ◌/◌, ◌%◌, ◌^◌, ◌<◌, List, [], ◌∷◌, length, get_or, map}
use Rattle.std.proofs.Common.{arith, cond, ltb, w8, w16}
use lib.Lanes.{zip2, sel_l, top, Each1}
use lib.ListN.{replicate}
use Rattle.std.proofs.lemmas.Bool.Decides.{nat_tests}
use Rattle.std.proofs.lemmas.List.{length-map}
use Rattle.std.proofs.lemmas.Simd.{Each1-weaker, Each1-zip2, Each2-splat, map-map, splat_is_map}
use Rattle.std.proofs.lemmas.Simd.{zip2-map}
use Rattle.std.proofs.lemmas.Simd.{zip2_splat}
use Rattle.mseed_steim.proofs.Below.{same_below}
use Rattle.mseed_steim_pack.proofs.Lanes.{min_maps, same_maps}
use Rattle.mseed_steim_pack.specs.private.Ahead.{most_two}

abbrev pub eighths : List ℕ
eighths = 7 ∷ 6 ∷ 5 ∷ 5 ∷ 4 ∷ 4 ∷ 4 ∷ 4 ∷ 4 ∷ 4 ∷ 4 ∷ 4 ∷ 4 ∷ 4 ∷ 4 ∷ 4 ∷ []

abbrev pub parts : List ℕ
parts = 7 ∷ 3 ∷ 3 ∷ 3 ∷ 2 ∷ 2 ∷ 2 ∷ 2 ∷ 2 ∷ 2 ∷ 2 ∷ 2 ∷ 2 ∷ 2 ∷ 2 ∷ 2 ∷ []

-- a number, or a limit where that is less
abbrev capped_at : ℕ → ℕ → ℕ
capped_at m n = cond (ltb n m) n m

-- an eighth of a size, in a byte
abbrev pub eighth : ℕ → ℕ
eighth x = capped_at 255 (x / 2 ^ 3)

-- the places of the tables, the last one for all that is larger
abbrev pub narrow_place : ℕ → ℕ
narrow_place x = capped_at 15 (eighth x)

abbrev pub wide_place : ℕ → ℕ
wide_place x = eighth x / 2 ^ 4

abbrev pub narrow : ℕ → ℕ
narrow x = get_or eighths (narrow_place x) 0

abbrev pub wide : ℕ → ℕ
wide x = get_or parts (wide_place x) 0

pub eighth_small : (x : ℕ) → eighth x < 256
eighth_small x = grind (arith, nat_tests)

pub narrow_few : (x : ℕ) → narrow_place x < 16
narrow_few x = grind (arith, nat_tests)

pub wide_few : (x : ℕ) → wide_place x < 16
wide_few x = omega (arith, eighth_small x)

-- what the tables say
narrow_is : (x : ℕ) → narrow x ≡ cond (ltb x 8) 7 (cond (ltb x 16) 6 (cond (ltb x 32) 5 4))
narrow_is x = search (arith, narrow_few, same_below)

wide_is : (x : ℕ) → wide x ≡ cond (ltb x 128) 7 (cond (ltb x 512) 3 2)
wide_is x = search (arith, same_below, wide_few)

-- one lane
lane_two : (x : ℕ) → x < 32768
    → (cond (ltb (narrow x) (wide x)) (narrow x) (wide x) + (256 - x / 2 ^ 14)) % 256 ≡ most_two x
lane_two x small = rw (narrow_is x, wide_is x) (grind (arith, nat_tests))

-- in all lanes
pub eighths_read : (n : ℕ) (xs : List ℕ) → length xs ≡ n
    → sel_l (map (top 15) (zip2 (λ a b. cond (ltb a b) 65535 0) (zip2 (λ a b. a / 2 ^ b) xs (replicate n 3))
    (replicate n 255))) (zip2 (λ a b. a / 2 ^ b) xs (replicate n 3)) (replicate n 255) ≡ map eighth xs
eighths_read n xs h = rw (zip2_splat (λ a b. a / 2 ^ b) xs n 3 h, splat_is_map {Y = ℕ} xs n 255 h)
    (min_maps w16 (λ x. x / 2 ^ 3) (λ _. 255) xs)

pub narrow_read : (n : ℕ) (xs : List ℕ) → length xs ≡ n
    → sel_l (map (top 7) (zip2 (λ a b. cond (ltb a b) 255 0) (map eighth xs) (replicate n 15))) (map eighth xs)
    (replicate n 15) ≡ map narrow_place xs
narrow_read n xs h = rw (splat_is_map {Y = ℕ} xs n 15 h) (min_maps w8 eighth (λ _. 15) xs)

pub wide_read : (n : ℕ) (xs : List ℕ) → length xs ≡ n
    → zip2 (λ a b. a / 2 ^ b) (map eighth xs) (replicate n 4) ≡ map wide_place xs
wide_read n xs h = search (arith, length-map, map-map, zip2_splat)

pub lanes_two : (n : ℕ) (xs : List ℕ) → length xs ≡ n → Each1 (λ x. x < 32768) xs
    → zip2 (λ a b. (a + (256 - b)) % 256)
    (sel_l (map (top 7) (zip2 (λ a b. cond (ltb a b) 255 0) (map narrow xs) (map wide xs))) (map narrow xs)
    (map wide xs))
    (map (λ x. x) (zip2 (λ a b. a / 2 ^ b) xs (replicate n 14)))
    ≡ map most_two xs
lanes_two n xs h k =
    rw (
      min_maps w8 narrow wide xs,
      zip2_splat (λ a b. a / 2 ^ b) xs n 14 h,
      map-map (λ x. x) (λ a. a / 2 ^ 14) xs,
      zip2-map (λ a b. (a + (256 - b)) % 256) _ (λ a. a / 2 ^ 14) xs,
    ) (same_maps (λ x. x < 32768) _ most_two lane_two xs k)

pub far_small : (n : ℕ) (xs : List ℕ) → length xs ≡ n → Each1 (λ x. x < 32768) xs
    → Each1 (λ x. x < 256) (zip2 (λ a b. a / 2 ^ b) xs (replicate n 14))
far_small n xs h k = Each1-zip2 (λ a b. a / 2 ^ b) (λ x. x < 256) xs (replicate n 14)
    (Each2-splat (λ a b. a / 2 ^ b < 256) xs n 14 (Each1-weaker (λ x. x < 32768) _ (λ x l. omega (arith, l)) xs k))
