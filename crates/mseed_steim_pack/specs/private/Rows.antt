-- The rows of the table of groups, by how many differences they have. What a word spells is stated in Spelling.
use Rattle.std.specs.Prelude.{◌≡◌, ℕ, ◌-◌, ◌*◌, ◌^◌, ◌<◌, ◌≤◌, ◌==◌, nat_lt, if◌then◌else◌, List, [], ◌∷◌, take}
use Rattle.std.specs.Prelude.{ℤ, Option, Some, None, All, map, replicate}
use Rattle.std.specs.List.{range_with_len}
use Rattle.mseed_steim.specs.declared.scheme.Scheme.{Scheme}
use Rattle.mseed_steim.specs.declared.scheme.Scheme.TheVariants.{One, Two}
use Rattle.mseed_steim.specs.Spelling.{IsWithin}
use Rattle.mseed_steim_pack.specs.declared.row.WordFormat.{WordFormat}
use Rattle.mseed_steim_pack.specs.Packing.{CanSpell}

abbrev pub row_with : ℕ → ℕ → ℕ → ℕ → WordFormat
row_with code dnib count width = record { code = code; dnib = dnib; count = count; width = width }

-- the rows of a scheme
abbrev pub rows_of : Scheme → List WordFormat
rows_of One = row_with 3 0 1 32 ∷ row_with 2 0 2 16 ∷ row_with 1 0 4 8 ∷ []
rows_of Two =
    row_with 2 1 1 30 ∷ row_with 2 2 2 15 ∷ row_with 2 3 3 10 ∷ row_with 1 0 4 8 ∷ row_with 3 0 5 6 ∷ row_with 3 1 6 5
    ∷ row_with 3 2 7 4 ∷ []

-- the row of so many differences
abbrev pub row_in : List WordFormat → ℕ → Option WordFormat
row_in [] count = None
row_in (row ∷ rows) count = if count == row.count then Some row else row_in rows count

abbrev pub row_for : Scheme → ℕ → Option WordFormat
row_for scheme = row_in (rows_of scheme)

-- half of what the bits of a row's differences tell apart: the sizes of those that fit are less; 0 where there's no row
abbrev pub size_limit : Option WordFormat → ℕ
size_limit None = 0
size_limit (Some row) = 2 ^ (row.width - 1)

-- it has more bits than each of two differences of a word
abbrev pub IsWide : Scheme → ℤ → Type 0
IsWide scheme d = (row : WordFormat) → row_for scheme 2 ≡ Some row → ¬ (IsWithin row.width d)

-- no word spells a prefix of more than `low` and at most `high` of the differences
abbrev pub NoneSpelled : Scheme → List ℤ → ℕ → ℕ → Type 0
NoneSpelled scheme ds low high = (k : ℕ) → low < k → k ≤ high → ¬ (CanSpell scheme (take k ds))

-- the row that takes the largest number of the first `high` differences, or none where no word spells the first
abbrev pub IsBestRow : Scheme → List ℤ → ℕ → Option WordFormat → Type 0
IsBestRow scheme ds high None = NoneSpelled scheme ds 0 high
IsBestRow scheme ds high (Some row) =
    (row_for scheme row.count ≡ Some row) × (row.count ≤ high) × All (IsWithin row.width) (take row.count ds)
    × NoneSpelled scheme ds row.count high

-- what a difference of a word counts for where it holds so many of a width, the last one for 1; nothing after them
abbrev pub place_of : ℕ → ℕ → ℕ → ℕ
place_of width count i = if nat_lt i count then 2 ^ (width * (count - 1 - i)) else 0

-- the same of eight, and the bits of one difference of a width, in each lane
abbrev pub places_of : ℕ → ℕ → List ℕ
places_of width count = map (place_of width count) (range_with_len 0 8)

abbrev pub masks_of : ℕ → List ℕ
masks_of width = replicate 8 (2 ^ width - 1)
