-- What comes next in a walk over data words.
use Rattle.std.specs.Prelude.{◌≡◌, ◌+◌, ◌*◌, ◌<◌, List, [], ◌∷◌, ◌++◌, map, length, ℤ, Option, Some, None, Result, Ok}
use Rattle.std.specs.Prelude.{Err}
use Rattle.mseed_steim.specs.declared.scheme.Scheme.{Scheme}
use Rattle.mseed_steim.specs.declared.differences.BadWordAt.{BadWordAt}
use Rattle.mseed_steim.specs.Frames.{DataWord}
use Rattle.mseed_steim.specs.private.Items.{items_of}

-- The items of the words before are this one, those that are ready then, and those of the words after. A word
-- has no more than seven.
abbrev pub IsStep : Scheme → List DataWord → Option (Result ℤ BadWordAt) → List DataWord → List ℤ → Type 0
IsStep scheme before None after ready = (items_of scheme before ≡ []) × (after ≡ []) × (ready ≡ [])
IsStep scheme before (Some (Ok d)) after ready =
    (items_of scheme before ≡ Ok d ∷ map Ok ready ++ items_of scheme after)
    × (length ready + 7 * length after < 7 * length before)
IsStep scheme before (Some (Err at)) after ready =
    (items_of scheme before ≡ Err at ∷ []) × (after ≡ []) × (ready ≡ []) × (0 < length before)
