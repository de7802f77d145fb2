-- The values of eight digits, by lanes.
use Rattle.std.proofs.Common.{◌≡◌, ◌≢◌, ◌∙◌, ◌+◌, ◌*◌, ◌<◌, ◌≤◌, ◌%◌, ◌^◌, ◌||◌, ℕ, suc, List, [], ◌∷◌, Bool, true}
use Rattle.std.proofs.Common.{false, cond, Option, Some, None, length, map, get_or, replicate, bit_and, Fits, w8, refl}
use Rattle.std.proofs.Common.{sym, ap, arith, nat_eq}
use Rattle.std.proofs.lemmas.Bool.{agree_below, agree_below_at}
use Rattle.std.proofs.lemmas.Bool.Decides.{nat_tests}
use Rattle.std.proofs.lemmas.List.{length-map}
use Rattle.std.proofs.lemmas.Simd.{chunk-fits, get_or-chunk, length-chunk, map-map, mask_l-mod, zip2_of_maps}
use Rattle.std.proofs.lemmas.Simd.{zip2_splat, zip2_splat_left}
use borrow.Rule.Simd.Lanes.{act2}
use borrow.Table.Row.{s_int}
use lib.Lanes.{Each1, chunk, mask_l, sel_l, top, zip2}
use mir.Syntax.{mask, le, unsigned, wrap_add, wrap_sub}
use Rattle.mseed_join.specs.private.Reading.{nibble_of}

-- what the lanes are compared, lowered and raised by
abbrev pub is_most : ℕ → ℕ → ℕ
is_most = act2 (mask (le unsigned)) (s_int w8) (s_int w8) (s_int w8)

abbrev pub lowered : ℕ → ℕ → ℕ
lowered = act2 wrap_sub (s_int w8) (s_int w8) (s_int w8)

abbrev pub raised : ℕ → ℕ → ℕ
raised = act2 wrap_add (s_int w8) (s_int w8) (s_int w8)

abbrev lacks : Option ℕ → Bool
lacks None = true
lacks (Some n) = false

abbrev has : Option ℕ → ℕ → Bool
has None n = false
has (Some m) n = nat_eq m n

has_is : (o : Option ℕ) (n : ℕ) → has o n ≡ true → o ≡ Some n
has_is None n e = absurd (cc e)
has_is (Some m) n e = let same : m ≡ n = grind (arith, nat_tests) in ap (λ (k : ℕ). Some k) same

lacks_is : (o : Option ℕ) → lacks o ≡ true → o ≡ None
lacks_is None e = refl
lacks_is (Some n) e = absurd (cc e)

sel_of_maps : (f : ℕ → Bool) (g h : ℕ → ℕ) (xs : List ℕ)
    → sel_l (map f xs) (map g xs) (map h xs) ≡ map (λ x. cond (f x) (g x) (h x)) xs
sel_of_maps f g h [] = refl
sel_of_maps f g h (x ∷ xs) = ap (λ (ys : List ℕ). cond (f x) (g x) (h x) ∷ ys) (sel_of_maps f g h xs)

-- by what a test and a value are at each byte
module _ (wrong : ℕ → Bool) (value : ℕ → ℕ)
    (none : agree_below wrong (λ x. lacks (nibble_of x)) 256 ≡ true)
    (some : agree_below (λ x. wrong x || has (nibble_of x) (value x)) (λ x. true) 256 ≡ true) where
  value_at : (x : ℕ) → x < 256 → wrong x ≡ false → nibble_of x ≡ Some (value x)
  value_at x l e =
      has_is (nibble_of x) (value x)
      (ap (λ (t : Bool). t || has (nibble_of x) (value x)) (sym e)
      ∙ agree_below_at (λ x. wrong x || has (nibble_of x) (value x)) (λ x. true) 256 x some l)

  none_at : (x : ℕ) → x < 256 → wrong x ≡ true → nibble_of x ≡ None
  none_at x l e =
      lacks_is (nibble_of x) (sym (agree_below_at wrong (λ x. lacks (nibble_of x)) 256 x none l) ∙ e)

  values_by : (x : ℕ) (xs : List ℕ) (t : Bool) → wrong x ≡ t → x < 256
      → cond t 1 0 + 2 * mask_l (map wrong xs) ≡ 0
      → (mask_l (map wrong xs) ≡ 0 → map nibble_of xs ≡ map (λ n. Some n) (map value xs))
      → map nibble_of (x ∷ xs) ≡ map (λ n. Some n) (map value (x ∷ xs))
  values_by x xs true e l empty later = absurd (omega (arith, empty))
  values_by x xs false e l empty later = search (arith, value_at)

  pub values_of : (xs : List ℕ) → Each1 (Fits w8) xs → mask_l (map wrong xs) ≡ 0
      → map nibble_of xs ≡ map (λ n. Some n) (map value xs)
  values_of [] fits empty = refl
  values_of (x ∷ xs) fits empty =
      values_by x xs (wrong x) refl fits.0.fits empty (λ e. values_of xs fits.1 e)

  wrong_by : (x : ℕ) (xs : List ℕ) (t : Bool) → wrong x ≡ t → x < 256
      → cond t 1 0 + 2 * mask_l (map wrong xs) ≢ 0
      → (mask_l (map wrong xs) ≢ 0 → (k : ℕ) × ((k < length xs) × (nibble_of (get_or xs k 0) ≡ None)))
      → (k : ℕ) × ((k < length (x ∷ xs)) × (nibble_of (get_or (x ∷ xs) k 0) ≡ None))
  wrong_by x xs true e l found later = (0, (omega arith, none_at x l e))
  wrong_by x xs false e l found later =
      let there = later (λ empty. found (omega (arith, empty))) in
      (suc there.0, (omega (arith, there.1.0), there.1.1))

  pub wrong_of : (xs : List ℕ) → Each1 (Fits w8) xs → mask_l (map wrong xs) ≢ 0
      → (k : ℕ) × ((k < length xs) × (nibble_of (get_or xs k 0) ≡ None))
  wrong_of [] fits found = absurd (found refl)
  wrong_of (x ∷ xs) fits found =
      wrong_by x xs (wrong x) refl fits.0.fits found (λ e. wrong_of xs fits.1 e)

-- by the lanes
module _ (most less more : ℕ → ℕ → ℕ) (bytes : List ℕ) (room : 8 ≤ length bytes)
    (fits : (k : ℕ) → Fits w8 (get_or bytes k 0)) where
  abbrev digits : List ℕ
  digits = chunk 0 8 bytes

  abbrev figures : List ℕ
  figures = zip2 less digits (replicate 8 48)

  abbrev letters : List ℕ
  letters = zip2 less digits (replicate 8 65)

  abbrev pub wrong : ℕ → Bool
  wrong x = top 7 (bit_and (most 10 (less x 48)) (most 6 (less x 65)))

  abbrev pub value : ℕ → ℕ
  value x = cond (top 7 (most 10 (less x 48))) (more (less x 65) 10) (less x 48)

  long : length digits ≡ 8
  long = length-chunk 0 8 bytes room

  figures_are : figures ≡ map (λ x. less x 48) digits
  figures_are = zip2_splat less digits 8 48 long

  letters_are : letters ≡ map (λ x. less x 65) digits
  letters_are = zip2_splat less digits 8 65 long

  compared : (n : ℕ) (f : ℕ → ℕ) → zip2 most (replicate 8 n) (map f digits) ≡ map (λ x. most n (f x)) digits
  compared n f = search (arith, zip2_splat_left, length-map, long, map-map)

  are_other : zip2 most (replicate 8 10) figures ≡ map (λ x. most 10 (less x 48)) digits
  are_other = ap (λ (xs : List ℕ). zip2 most (replicate 8 10) xs) figures_are ∙ compared 10 (λ x. less x 48)

  no_letters : zip2 most (replicate 8 6) letters ≡ map (λ x. most 6 (less x 65)) digits
  no_letters = ap (λ (xs : List ℕ). zip2 most (replicate 8 6) xs) letters_are ∙ compared 6 (λ x. less x 65)

  abbrev others : ℕ
  others = mask_l (map (top 7) (zip2 bit_and (zip2 most (replicate 8 10) figures) (zip2 most (replicate 8 6) letters)))
      % 2 ^ 64

  mask_is : others ≡ mask_l (map wrong digits)
  mask_is =
      ap (λ (xs : List ℕ). mask_l (map (top 7) xs) % 2 ^ 64)
      (zip2_of_maps bit_and (λ x. most 10 (less x 48)) (λ x. most 6 (less x 65)) digits are_other no_letters)
      ∙ ap (λ (ms : List Bool). mask_l ms % 2 ^ 64)
      (map-map (top 7) (λ x. bit_and (most 10 (less x 48)) (most 6 (less x 65))) digits)
      ∙ mask_l-mod (map wrong digits) 64 (omega (arith, length-map digits wrong, long))

  raised_are : zip2 more letters (replicate 8 10) ≡ map (λ x. more (less x 65) 10) digits
  raised_are = search (arith, letters_are, zip2_splat, length-map, long, map-map)

  values_are : sel_l (map (top 7) (zip2 most (replicate 8 10) figures)) (zip2 more letters (replicate 8 10)) figures
      ≡ map value digits
  values_are =
      search (arith, are_other, raised_are, figures_are, map-map, sel_of_maps)

  module _ (none : agree_below wrong (λ x. lacks (nibble_of x)) 256 ≡ true)
      (some : agree_below (λ x. wrong x || has (nibble_of x) (value x)) (λ x. true) 256 ≡ true) where
    pub values_read : others ≡ 0 → map nibble_of digits ≡ map (λ n. Some n)
        (sel_l (map (top 7) (zip2 most (replicate 8 10) figures)) (zip2 more letters (replicate 8 10)) figures)
    values_read empty =
        values_of wrong value none some digits (chunk-fits w8 0 8 bytes fits) (sym mask_is ∙ empty)
        ∙ ap (λ (xs : List ℕ). map (λ n. Some n) xs) (sym values_are)

    pub digit_wrong : others ≢ 0 → (k : ℕ) × ((k < 8) × (nibble_of (get_or bytes k 0) ≡ None))
    digit_wrong found =
        let there = wrong_of wrong value none some digits (chunk-fits w8 0 8 bytes fits)
        (λ empty. found (mask_is ∙ empty)) in
        let within : there.0 < 8 = omega (arith, there.1.0, long) in
        let same : 0 + there.0 ≡ there.0 = omega arith in (
          there.0,
          (
            within,
            ap (λ (k : ℕ). nibble_of (get_or bytes k 0)) (sym same)
                ∙ ap nibble_of (sym (get_or-chunk 0 8 bytes there.0 0 within)) ∙ there.1.1,
          ),
        )
