-- Which packet of a station comes next on a link.
use Rattle.std.specs.Prelude.{◌≡◌, ℕ, ◌+◌, ◌<◌, List, [], ◌∷◌, ◌++◌, length, Some, slice_index_or}
use Rattle.slink_model.specs.Ties.{Item, Places, of_place, way_bytes}
use Rattle.slink_model.specs.World.{LinkState, WorldState, number_at}

-- What is on its way to the client, after the bytes that it kept, are replies and packets. Where something is held of
-- a
-- station, the first packet of it is that of the record after the last one held.
pub record GoesOn (places : Places) (w : WorldState) (l : LinkState) : Type 0 where
  pub items : List Item
  pub bytes : w.client.kept ++ l.to_client ≡ way_bytes items
  pub next : (k start : ℕ) (i : ℕ × List ℕ) (rest : List (ℕ × List ℕ)) → k < length places
      → number_at w.start k ≡ Some start
      → of_place k items ≡ i ∷ rest → i.0 ≡ start + length (slice_index_or w.held k [])
