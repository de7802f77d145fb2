-- How many differences words hold, by the sizes of single differences, and how they are joined.
use Rattle.std.specs.Prelude.{◌≡◌, ◌⊎◌, ◌↔◌, ℕ, ◌+◌, ◌-◌, ◌*◌, ◌/◌, ◌%◌, ◌^◌, ◌<◌, ◌≤◌, nat_lt, if◌then◌else◌}
use Rattle.std.specs.Prelude.{List, [], ◌∷◌, ℤ, pos, negsuc, slice_index_or, Some, map, true}
use Rattle.std.specs.List.{list_all, range_with_len}
use Rattle.mseed_steim.specs.declared.scheme.Scheme.{Scheme}
use Rattle.mseed_steim.specs.Spelling.{residue}
use Rattle.mseed_steim.specs.declared.scheme.Scheme.TheVariants.{One, Two}
use Rattle.mseed_steim_pack.specs.declared.layout.LayoutOne.{LayoutOne}
use Rattle.mseed_steim_pack.specs.declared.layout.LayoutTwo.{LayoutTwo}
use Rattle.mseed_steim_pack.specs.Lookahead.{AreCut, IsAhead}
use Rattle.mseed_steim_pack.specs.private.Rows.{row_for, masks_of, places_of}

-- the number, or the one below its opposite: the bits that it takes but for its sign
abbrev pub size_of : ℤ → ℕ
size_of (pos n) = n
size_of (negsuc n) = n

-- the number, where it's below 2^15
abbrev pub near : ℕ → ℕ
near n = if nat_lt n 32767 then n else 32767

-- half the size in Steim-1, and the size in Steim-2, where that is below 2^15
abbrev pub near_size : Scheme → ℤ → ℕ
near_size One z = near (size_of z / 2)
near_size Two z = near (size_of z)

-- one more where a number is below a limit
abbrev pub raised : (ℕ → ℕ) → ℕ → ℕ → ℕ
raised f limit x = f x + (if nat_lt x limit then 1 else 0)

-- the most differences of a word that holds two or more, one of which is of this near size
abbrev pub most_two : ℕ → ℕ
most_two = raised (raised (raised (raised (raised (raised (λ _. 1) 16384) 512) 128) 32) 16) 8

abbrev pub most_one : ℕ → ℕ
most_one = raised (raised (raised (λ _. 1) 16384) 64) 64

abbrev pub most_with : Scheme → ℕ → ℕ
most_with One = most_one
most_with Two = most_two

-- The largest number of the items from a place on, so many at the most, of which each is no less than it.
abbrev pub IsMostOf : ℕ → List ℕ → ℕ → ℕ → Type 0
IsMostOf count items from most =
    (k : ℕ) → (k ≤ most) ↔ ((j : ℕ) → j < k → j < count → k ≤ slice_index_or items (from + j) 0)

abbrev pub IsMost : List ℕ → ℕ → ℕ → Type 0
IsMost = IsMostOf 7

-- a row's bits of one difference, and what its differences count for
abbrev pub IsLayoutOne : LayoutOne → Type 0
IsLayoutOne layout =
    (row_for One layout.row.count ≡ Some layout.row) × (layout.row.dnib ≡ 0)
    × (layout.masks ≡ masks_of layout.row.width) × (layout.places ≡ places_of layout.row.width layout.row.count)

-- a number's bits, of 32
abbrev pub bits_of : ℤ → ℕ
bits_of (pos n) = n
bits_of (negsuc n) = 4294967295 - n

-- what a difference counts for in its pair, and the pair in its word
abbrev pub weighed : LayoutTwo → List ℤ → ℕ → ℕ
weighed layout cut i = residue (2 ^ layout.row.width) (slice_index_or cut i (pos 0))
    * bits_of (slice_index_or layout.weights i (pos 0)) % 2 ^ 32

abbrev pub paired : LayoutTwo → List ℤ → ℕ → ℕ
paired layout cut pair = (weighed layout cut (2 * pair + 1) + weighed layout cut (2 * pair)) % 2 ^ 32
    * slice_index_or layout.counts pair 0 % 2 ^ 32

-- A row's bits of one difference, 15 at the most, its code, and its dnib where it stands in a word; by a weight and by
-- what its pair counts for, each difference counts for what it does where they are side by side.
pub record IsLayoutTwo (layout : LayoutTwo) : Type 0 where
  pub row : row_for Two layout.row.count ≡ Some layout.row
  pub short : nat_lt layout.row.width 16 ≡ true
  pub masks : layout.masks ≡ map pos (masks_of layout.row.width)
  pub small : list_all (λ z. nat_lt (size_of z) 32768) layout.weights ≡ true
  pub code : layout.code ≡ layout.row.code
  pub heads : layout.heads ≡ layout.row.dnib * 2 ^ 30 ∷ 0 ∷ 0 ∷ 0 ∷ []
  pub places : map (λ i. bits_of (slice_index_or layout.weights i (pos 0)) * slice_index_or layout.counts (i / 2) 0
      % 2 ^ 32) (range_with_len 0 8) ≡ places_of layout.row.width layout.row.count

-- What is known ahead of differences: how many a word takes, and, in Steim-2, the first of them.
abbrev pub Knows : Scheme → List ℤ → List ℤ → ℕ → Type 0
Knows scheme ds cut most = 2 ≤ most → IsAhead scheme ds most × (scheme ≡ Two → AreCut ds cut)

-- There are zeros from one place to another, and every other number is as it was before, or 0.
pub record Cleared (from to : ℕ) (before after : List ℕ) : Type 0 where
  pub each : (i : ℕ) → (slice_index_or after i 0 ≡ slice_index_or before i 0) ⊎ (slice_index_or after i 0 ≡ 0)
  pub none : (i : ℕ) → from ≤ i → i < to → slice_index_or after i 0 ≡ 0
