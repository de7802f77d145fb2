-- The places that are requested of a feed.
use Rattle.std.specs.Prelude.{◌≡◌, ℕ, Bool, true, ◌≤◌, ◌&&◌, not, List, [], ◌∷◌, length}
use Rattle.std.specs.Prelude.{Option}
use Rattle.std.specs.List.{list_any}
use Rattle.std.specs.Str.{bytes_eq}
use Rattle.slink_wire.specs.Place.{AreNumbers, Fields}

-- a place, and the number of the record that is wanted first of it, where one is given
abbrev pub Called : Type 0
Called = Fields × Option ℕ

-- the same station of the same network
abbrev pub is_same : Fields → Fields → Bool
is_same p q = bytes_eq p.station q.station && bytes_eq p.network q.network

-- one of them is this place, whatever number it has
abbrev pub has_place : Fields → List Called → Bool
has_place place places = list_any (λ q. is_same q.0 place) places

-- no place is there twice
abbrev pub are_different : List Called → Bool
are_different [] = true
are_different (p ∷ ps) = not (has_place p.0 ps) && are_different ps

-- what a feed can have, and a client can ask for
pub record ArePlaces (places : List Called) : Type 0 where
  pub some : 1 ≤ length places
  pub most : length places ≤ 16
  pub different : are_different places ≡ true
  pub numbers : AreNumbers places
