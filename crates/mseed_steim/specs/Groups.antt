-- The groups of differences in a word of a Steim frame (SEED manual, appendix B, "The Steim-1
-- compression algorithm" and "The Steim-2 compression algorithm").
use Rattle.std.specs.Prelude.{ℕ, ◌==◌, Bool, true, false, if◌then◌else◌, Option, Some, None}
use Rattle.mseed_steim.specs.declared.scheme.Scheme.{Scheme}
use Rattle.mseed_steim.specs.declared.scheme.Scheme.TheVariants.{One, Two}

-- What a word holds: `count` differences of `width` bits. Where it's marked, its top two bits are the
-- dnib. Its bits 29 and 28 can be any of `spare` values: four where nothing is given of them.
pub record Group : Type 0 where
  pub marked : Bool
  pub spare : ℕ
  pub count : ℕ
  pub width : ℕ

-- a whole word of differences
abbrev pub plain : ℕ → ℕ → Option Group
plain count width = Some (record { marked = false; spare = 1; count = count; width = width })

-- a dnib and 30 bits of differences
abbrev pub marked : ℕ → ℕ → Option Group
marked count width = Some (record { marked = true; spare = 1; count = count; width = width })

-- a dnib, two bits that may be anything, and 28 bits of differences
abbrev pub spared : ℕ → ℕ → Option Group
spared count width = Some (record { marked = true; spare = 4; count = count; width = width })

-- Steim-2's code 10, by the dnib
abbrev pub wide_group : ℕ → Option Group
wide_group dnib =
    if dnib == 1 then marked 1 30
    else if dnib == 2 then marked 2 15
    else if dnib == 3 then marked 3 10
    else None

-- Steim-2's code 11, by the dnib
abbrev pub narrow_group : ℕ → Option Group
narrow_group dnib =
    if dnib == 0 then marked 5 6
    else if dnib == 1 then marked 6 5
    else if dnib == 2 then spared 7 4
    else None

-- The table, by scheme, code and dnib. Code 00 is a word of no differences and has no group.
abbrev pub group_of : Scheme → ℕ → ℕ → Option Group
group_of One code dnib =
    if code == 1 then plain 4 8
    else if code == 2 then plain 2 16
    else if code == 3 then plain 1 32
    else None
group_of Two code dnib =
    if code == 1 then plain 4 8
    else if code == 2 then wide_group dnib
    else if code == 3 then narrow_group dnib
    else None
