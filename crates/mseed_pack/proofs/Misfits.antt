-- What is found of a series' samples.
use Rattle.std.proofs.Common.{◌*◌, ◌%◌, ◌^◌, FitsSigned, w32, of_z}
use Rattle.std.proofs.Common.{◌≡◌, ◌↔◌, ◌<◌, ◌≤◌, ◌+◌, ◌-◌, ℕ, zero, suc, ℤ, ◌-ℤ◌, List, length, get_or, pos}
use Rattle.std.proofs.Common.{◌/◌, inl, inr, false, arith, All, below_more, below_none}
use Rattle.std.proofs.Math.Nat.{div-add-mod, div-lt_iff_lt-mul, mod-lt, mul-le-mul_left}
use Rattle.std.specs.Int.RustNames.{bit_or}
use Rattle.std.specs.Prelude.{IsTrue}
use Rattle.std.proofs.lemmas.Bool.{cases_lt, false≢true}
use Rattle.std.proofs.lemmas.Int.{ints}
use Rattle.std.proofs.lemmas.Nat.{le_or_l, le_or_r, or_lt}
use Rattle.std.proofs.lemmas.List.Elements.{All-from_get_or, All-get_or}
use Rattle.mseed_steim.specs.Spelling.{IsWithin}
use Rattle.mseed_pack.specs.private.Filling.{AreFourUnder, IsUnder}
use Rattle.mseed_pack.specs.Fitting.{IsDifferenceOf, IsFirstNot}
use Rattle.mseed_pack.specs.Stretches.{differences}
use Rattle.mseed_pack.specs.private.KnownSamples.{sample_before}
use Rattle.mseed_steim.specs.declared.encoding.Encoding.{Encoding}
use Rattle.mseed_steim.specs.declared.encoding.Encoding.TheVariants.{Int16, Int32}
use Rattle.mseed_pack.proofs.Differences.{difference_at, first_difference, length-differences}

-- what would be found isn't so
pub not_so : {P : Type 0} → (P → IsTrue false) → ¬ P
not_so {P} f p = false≢true (f p)

pub zero_fits : (e : Encoding) → IsDifferenceOf e (pos 0)
zero_fits Int16 = tt
zero_fits Int32 = tt
zero_fits e = (omega (arith, ints), omega (arith, ints))

near_fits : (e : Encoding) (x y : ℤ) → IsWithin 29 x → IsWithin 29 y → IsDifferenceOf e (y -ℤ x)
near_fits Int16 x y h k = tt
near_fits Int32 x y h k = tt
near_fits e x y h k = (omega (arith, ints, h, k), omega (arith, ints, h, k))

near_at : (e : Encoding) (xs : List ℤ) → All (IsWithin 29) xs → (k : ℕ) → k < length xs
    → IsDifferenceOf e (get_or (differences xs) k (pos 0))
near_at e xs near k h = rw (difference_at xs k h) (near_fits e (sample_before xs k) (get_or xs k (pos 0))
    (All-get_or (IsWithin 29) xs (k - 1) (pos 0) (omega (arith, h)) near)
    (All-get_or (IsWithin 29) xs k (pos 0) h near))

-- samples of 29 bits aren't too far apart for any encoding
pub near_differences : (e : Encoding) (xs : List ℤ) → All (IsWithin 29) xs → All (IsDifferenceOf e) (differences xs)
near_differences e xs near =
    All-from_get_or (IsDifferenceOf e) (differences xs) (pos 0)
    (λ k h. near_at e xs near k (omega (arith, h, length-differences xs)))

-- whether a sample is under a limit, as a number that can't be negative
pub raised_under : (limit : ℕ) (z : ℤ) → limit < 2 ^ 31 → FitsSigned w32 z
    → ((of_z w32 z + limit) % 2 ^ 32 < 2 * limit) ↔ IsUnder (pos limit) z
raised_under limit z small fits =
    let half = fits.sfits in (
      λ less. (omega (arith, ints, less, half, small), omega (arith, ints, less, half, small)),
      λ under. let above = under.0 in let below = under.1 in omega (arith, ints, above, below, half, small),
    )

-- a power of two, whichever
abbrev pub IsPower : ℕ → Type 0
IsPower bound = (k : ℕ) × (bound ≡ 2 ^ k)

-- two numbers are under a power of two exactly where their bits are
pub both_below : {P Q : Type 0} (bound a b : ℕ) → IsPower bound → (a < bound) ↔ P → (b < bound) ↔ Q
    → (bit_or a b < bound) ↔ (P × Q)
both_below bound a b power one two = (
  λ less. (one.0 (omega (arith, less, le_or_l a b)), two.0 (omega (arith, less, le_or_r a b))),
  λ all.
      rw power.1 (or_lt power.0 a b (omega (arith, power.1, one.1 all.0)) (omega (arith, power.1, two.1 all.1))),
)

pub four_below : (limit : ℤ) (zs : List ℤ) (index part bound a b c d : ℕ) → IsPower bound
    → (a < bound) ↔ IsUnder limit (get_or zs index (pos 0))
    → (b < bound) ↔ IsUnder limit (get_or zs (index + part) (pos 0))
    → (c < bound) ↔ IsUnder limit (get_or zs (index + 2 * part) (pos 0))
    → (d < bound) ↔ IsUnder limit (get_or zs (index + 3 * part) (pos 0))
    → (bit_or (bit_or (bit_or a b) c) d < bound) ↔ AreFourUnder limit zs index part
four_below limit zs index part bound a b c d power one two three four =
    let at_none : index ≡ index + 0 * part = omega arith in
    let at_one : index + part ≡ index + 1 * part = omega arith in
    let pair = both_below bound a b power (rw at_none at one) (rw at_one at two) in
    let triple = both_below bound (bit_or a b) c power pair three in
    let all = both_below bound (bit_or (bit_or a b) c) d power triple four in (
      λ less.
          let h = all.0 less in
          below_more _ 3 (below_more _ 2 (below_more _ 1 (below_more _ 0 (below_none _) h.0.0.0) h.0.0.1) h.0.1) h.1,
      λ h. all.1 (((h 0 (omega arith), h 1 (omega arith)), h 2 (omega arith)), h 3 (omega arith)),
    )

-- so are those at a place of eight parts side by side
abbrev pub AreEightUnder : ℤ → List ℤ → ℕ → ℕ → Type 0
AreEightUnder limit zs part k = AreFourUnder limit zs k part × AreFourUnder limit zs (k + 4 * part) part

pub eight_more : (limit : ℤ) (zs : List ℤ) (part at bound bits one two : ℕ) → IsPower bound
    → (one < bound) ↔ AreFourUnder limit zs at part → (two < bound) ↔ AreFourUnder limit zs (at + 4 * part) part
    → (bits < bound) ↔ ((k : ℕ) → k < at → AreEightUnder limit zs part k)
    → (bit_or (bit_or bits one) two < bound) ↔ ((k : ℕ) → k < at + 1 → AreEightUnder limit zs part k)
eight_more limit zs part at bound bits one two power first second before =
    let both = both_below bound (bit_or bits one) two power (both_below bound bits one power before first) second in (
      λ less. let h = both.0 less in below_more _ _ h.0.0 (h.0.1, h.1),
      λ all. let here = all at (omega arith) in both.1 (((λ k h. all k (omega (arith, h))), here.0), here.1),
    )

pub one_more : (limit : ℤ) (zs : List ℤ) (last bound bits raised : ℕ) → IsPower bound
    → (raised < bound) ↔ IsUnder limit (get_or zs last (pos 0))
    → (bits < bound) ↔ ((k : ℕ) → k < last → IsUnder limit (get_or zs k (pos 0)))
    → (bit_or bits raised < bound) ↔ ((k : ℕ) → k < last + 1 → IsUnder limit (get_or zs k (pos 0)))
one_more limit zs last bound bits raised power one before =
    let both = both_below bound bits raised power before one in (
      λ less. below_more _ _ (both.0 less).0 (both.0 less).1,
      λ all. both.1 ((λ k h. all k (omega (arith, h))), all last (omega arith)),
    )

-- eight parts side by side are all numbers up to the end of the last
pub parts_under : (limit : ℤ) (zs : List ℤ) (part : ℕ) → ((k : ℕ) → k < part → AreEightUnder limit zs part k)
    ↔ ((k : ℕ) → k < 8 * part → IsUnder limit (get_or zs k (pos 0)))
parts_under limit zs part = (
  λ h i inside.
      let some : 0 < part = omega (arith, inside) in
      let few = (div-lt_iff_lt-mul {k = part} {x = i} {y = 8} some).1 inside in
      let eight = h (i % part) (mod-lt i some) in
      let whole : i % part + i / part * part ≡ i = omega (arith, div-add-mod i part) in
      elim (cases_lt (i / part) 4) [
        | inl low ↦ rw whole at (eight.0 (i / part) low)
        | inr high ↦
            let up : 4 + (i / part - 4) ≡ i / part = omega (arith, high) in
            let place : i % part + 4 * part + (i / part - 4) * part ≡ i % part + (4 + (i / part - 4)) * part =
            omega arith in
            rw (place, up, whole) at (eight.1 (i / part - 4) (omega (arith, few, high)))
      ],
  λ all k h.
      let most : (j : ℕ) → j < 4 → part * j ≤ part * 3 = λ j b. mul-le-mul_left part (omega (arith, b)) in (
        λ j b. all (k + j * part) (omega (arith, h, most j b)),
        λ j b. all (k + 4 * part + j * part) (omega (arith, h, most j b)),
      ),
)

-- a first difference that an encoding doesn't hold is none of the first sample
pub difference_late : (e : Encoding) (xs : List ℤ) (i : ℕ) → IsFirstNot (IsDifferenceOf e) (differences xs) i → 0 < i
difference_late e xs zero h = absurd (h.not_it (rw (first_difference xs) (zero_fits e)))
difference_late e xs (suc i) h = omega arith
