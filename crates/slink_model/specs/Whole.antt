-- What a client holds of a link, by how many bytes of it came to the client.
use Rattle.std.specs.Prelude.{◌≡◌, ℕ, ◌+◌, ◌-◌, ◌*◌, ◌/◌, ◌==◌, List, [], ◌∷◌, ◌++◌, length, take, slice_index_or}
use Rattle.std.specs.Prelude.{if◌then◌else◌}
use Rattle.slink_model.specs.declared.world.Step.{Step}
use Rattle.slink_model.specs.declared.world.Step.TheVariants.{Connect, Cut}
use Rattle.slink_model.specs.Counted.{CountedLink, IsStreamed}
use Rattle.slink_model.specs.Ties.{Item, Carried}
use Rattle.slink_model.specs.World.{Lists}

-- The step neither connects nor cuts the link.
abbrev pub KeepsLink : Step → Type 0
KeepsLink Connect = ⊥
KeepsLink Cut = ⊥
KeepsLink step = Unit {0}

-- the record of a station in what a server sends: one, or none
abbrev pub record_in : ℕ → Item → List (List ℕ)
record_in k (Carried j n r) = if j == k then r ∷ [] else []
record_in k item = []

-- those of all that it sends, in order
abbrev pub records_in : ℕ → List Item → List (List ℕ)
records_in k [] = []
records_in k (i ∷ is) = record_in k i ++ records_in k is

-- how many packets there are
abbrev pub packet_count : List Item → ℕ
packet_count [] = 0
packet_count (Carried k n r ∷ is) = packet_count is + 1
packet_count (i ∷ is) = packet_count is

-- how many records are held of all stations
abbrev pub held_count : Lists → ℕ
held_count [] = 0
held_count (records ∷ held) = length records + held_count held

-- Of each station is held what was held before, and after it its records in these items: one for each packet.
pub record HoldsMore (old : Lists) (items : List Item) (held : Lists) : Type 0 where
  pub each : (k : ℕ) → slice_index_or held k [] ≡ slice_index_or old k [] ++ records_in k items
  pub count : held_count held ≡ held_count old + packet_count items

-- Two replies of 4 bytes to each of `places` stations came to the client, and packets after them. For each 520 bytes
-- that came after the replies a packet is whole, and the records of these are held.
pub record HoldsWhole (places : ℕ) (old held : Lists) (l : CountedLink) : Type 0 where
  pub streamed : IsStreamed places l
  pub holds : HoldsMore old (take ((l.delivered - 8 * places) / 520) streamed.packets) held
  pub count : held_count held ≡ held_count old + (l.delivered - 8 * places) / 520
