-- The rings of a feed.
use Rattle.std.specs.Prelude.{◌≡◌, ◌≢◌, ℕ, ◌⊎◌, ◌<◌, List, [], ◌∷◌, Option, Some, None, length, slice_get}
use Rattle.std.specs.List.{position_from}
use Rattle.std.specs.Option.{ForSome}
use Rattle.slink_wire.specs.Place.{Bears, Fields, matches}
use Rattle.slink_feed.specs.Window.{Window}

-- One of the rings is of this station.
abbrev pub HasPlace : List Window → Fields → Type 0
HasPlace [] place = ⊥
HasPlace (w ∷ ws) place = (w.place ≡ place) ⊎ HasPlace ws place

-- None is.
abbrev pub LacksPlace : List Window → Fields → Type 0
LacksPlace [] place = Unit {0}
LacksPlace (w ∷ ws) place = (w.place ≢ place) × LacksPlace ws place

-- the index of the first ring of a station with this code, in this network or in any
abbrev pub station_at : List Window → List ℕ → Option (List ℕ) → Option ℕ
station_at feed sta net = position_from (λ w. matches w.place sta net) 0 feed

-- the first ring whose station a record is of
pub record IsPlaceOf (feed : List Window) (bytes : List ℕ) (k : ℕ) : Type 0 where
  pub within : k < length feed
  pub bears : ForSome (slice_get feed k) (λ w. Bears bytes w.place)
  pub first : (j : ℕ) (w : Window) → j < k → slice_get feed j ≡ Some w → ¬ (Bears bytes w.place)

-- A record is of the station of no ring.
abbrev pub IsOfNoPlace : List Window → List ℕ → Type 0
IsOfNoPlace feed bytes = (k : ℕ) (w : Window) → slice_get feed k ≡ Some w → ¬ (Bears bytes w.place)

module _ {X : Type 0} where
  -- what stands in slots
  abbrev pub filled_of : List (Option X) → List X
  filled_of [] = []
  filled_of (None ∷ slots) = filled_of slots
  filled_of (Some x ∷ slots) = x ∷ filled_of slots

  -- No slot is empty.
  abbrev pub AreFilled : List (Option X) → Type 0
  AreFilled [] = Unit {0}
  AreFilled (None ∷ slots) = ⊥
  AreFilled (Some x ∷ slots) = AreFilled slots
