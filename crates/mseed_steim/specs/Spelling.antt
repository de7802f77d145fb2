-- What a word of a Steim frame spells (SEED manual, appendix B): differences in two's complement, the
-- earlier ones in the higher bits.
use Rattle.std.specs.Prelude.{◌≡◌, ℕ, ◌+◌, ◌-◌, ◌*◌, ◌%◌, ◌^◌, ◌<◌, ◌≤ℤ◌, ◌<ℤ◌, if◌then◌else◌, List, [], ◌∷◌, length, ℤ}
use Rattle.std.specs.Prelude.{pos, negsuc, neg_ℤ, Some, All}
use Rattle.mseed_steim.specs.declared.scheme.Scheme.{Scheme}
use Rattle.mseed_steim.specs.Groups.{Group, group_of}

-- z modulo m
abbrev pub residue : ℕ → ℤ → ℕ
residue m (pos n) = n % m
residue m (negsuc n) = m - 1 - n % m

-- the numbers that `width` bits of two's complement hold
abbrev pub IsWithin : ℕ → ℤ → Type 0
IsWithin width z = (neg_ℤ (pos (2 ^ (width - 1))) ≤ℤ z) × (z <ℤ pos (2 ^ (width - 1)))

-- the sum of the digits, each modulo 2^width, times the powers of 2^width: the last digit's power is 0
abbrev pub positional : ℕ → List ℤ → ℕ
positional width [] = 0
positional width (d ∷ ds) = residue (2 ^ width) d * 2 ^ (width * length ds) + positional width ds

-- The word is this group of differences: as many as it counts, each of its width, and their sum, below
-- the dnib where there's one and whatever the spare bits are.
pub record IsGroup (g : Group) (dnib word : ℕ) (ds : List ℤ) : Type 0 where
  pub count : length ds ≡ g.count
  pub range : All (IsWithin g.width) ds
  pub sum : (spare : ℕ) × (spare < g.spare)
      × (word ≡ (if g.marked then dnib * 2 ^ 30 else 0) + spare * 2 ^ 28 + positional g.width ds)

-- A word of code 00 spells no difference. One of another code spells those of a row of the table, for
-- some dnib.
pub data Spells (scheme : Scheme) (code word : ℕ) (ds : List ℤ) : Type 0 where
  empty : code ≡ 0 → ds ≡ [] → Spells scheme code word ds
  row : (g : Group) (dnib : ℕ) → group_of scheme code dnib ≡ Some g → IsGroup g dnib word ds
      → Spells scheme code word ds

-- the word spells nothing, not even the empty list
abbrev pub SpellsNone : Scheme → ℕ → ℕ → Type 0
SpellsNone scheme code word = (ds : List ℤ) → ¬ (Spells scheme code word ds)
