-- The differences of words one by one, by the words' digits. What they are is stated in Runs.
use Rattle.std.specs.Prelude.{List, [], ◌∷◌, ◌++◌, map, ℤ, Option, Some, None, Result, Ok, Err}
use Rattle.mseed_steim.specs.declared.scheme.Scheme.{Scheme}
use Rattle.mseed_steim.specs.declared.differences.BadWordAt.{BadWordAt}
use Rattle.mseed_steim.specs.private.Digits.{differences_of}
use Rattle.mseed_steim.specs.Frames.{DataWord}
use Rattle.mseed_steim.specs.Runs.{place_of}

-- differences in their order, and where one is lacking for a bad word, its place
abbrev pub Items : Type 0
Items = List (Result ℤ BadWordAt)

-- a word's differences and then the items of the words after it; or the place of a bad word, and no more
abbrev pub with_items : DataWord → Option (List ℤ) → Items → Items
with_items w None more = Err (place_of w) ∷ []
with_items w (Some ds) more = map Ok ds ++ more

unfoldable pub items_of : Scheme → List DataWord → Items
items_of scheme [] = []
items_of scheme (w ∷ ws) = with_items w (differences_of scheme w.code w.bits) (items_of scheme ws)
