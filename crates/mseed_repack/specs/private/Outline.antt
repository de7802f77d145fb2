-- What is known of a channel's samples before they are read.
use Rattle.std.specs.Prelude.{⊤, ◌≡◌, ℕ, Bool, true, false, ℤ, List, [], ◌∷◌, take, All}
use Rattle.std.specs.List.{AllByRecursion}
use Rattle.mseed_time.specs.declared.outcome.LeapStep.{LeapStep}
use Rattle.mseed_record.specs.View.{View}
use Rattle.mseed_steim.specs.Spelling.{IsWithin}
use Rattle.mseed_pack.specs.Fitting.{IsDifferenceOf, IsSampleOf}
use Rattle.mseed_pack.specs.Stretches.{differences}
use Rattle.mseed_steim.specs.declared.encoding.Encoding.{Encoding}
use Rattle.mseed_repack.specs.private.Reading.{IsRead}
use Rattle.mseed_repack.specs.declared.outline.Nearness.{Nearness}
use Rattle.mseed_repack.specs.declared.outline.Nearness.TheVariants.{Empty, Near, Unknown}

-- the last of some numbers, or else the one before them
abbrev pub last_after : ℤ → List ℤ → ℤ
last_after before [] = before
last_after before (x ∷ xs) = last_after x xs

-- there is a last number, and it is this one
abbrev pub EndsOn : ℤ → List ℤ → Type 0
EndsOn last [] = ⊥
EndsOn last (x ∷ xs) = last_after x xs ≡ last

-- each number is the one before it plus a difference of 30 bits, the widest of a Steim-2 word (SEED manual, appendix B)
abbrev pub AreNear : List ℤ → Type 0
AreNear xs = AllByRecursion (IsWithin 30) (differences xs)

-- what is known of samples: there is none; or each is near the one before it, and this is the last; or nothing
abbrev pub IsKnown : Nearness → List ℤ → Type 0
IsKnown Empty xs = xs ≡ []
IsKnown (Near last) xs = EndsOn last xs × AreNear xs
IsKnown Unknown xs = ⊤

-- an encoding holds samples, and their differences
abbrev pub AreHeld : Encoding → List ℤ → Type 0
AreHeld encoding xs = All (IsSampleOf encoding) xs × All (IsDifferenceOf encoding) (differences xs)

-- there are samples, and each is near the one before it
abbrev pub says_near : Nearness → Bool
says_near Empty = false
says_near (Near last) = true
says_near Unknown = false

-- The samples of these records are numbers of 32 bits, so many, of which this is known, and their leap seconds are the
-- first so many of a list.
pub record IsOutline (vs : List View) (count bears : ℕ) (nearness : Nearness) (steps : List (ℕ × LeapStep)) : Type
    0 where
  pub samples : List ℤ
  pub read : IsRead count bears samples (take bears steps) vs
  pub within : All (IsWithin 32) samples
  pub known : IsKnown nearness samples
