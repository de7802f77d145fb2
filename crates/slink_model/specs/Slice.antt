-- What a client holds after any steps of a schedule.
use Rattle.std.specs.Prelude.{◌≡◌, All, ℕ, ◌+◌, ◌^◌, ◌<◌, ◌≤◌, ◌&&◌, List, [], ◌∷◌, ◌++◌, length, Option, Some, None}
use Rattle.std.specs.Prelude.{nat_le, slice_get, slice_index_or, if◌then◌else◌}
use Rattle.slink_wire.specs.Place.{Fields}
use Rattle.slink_feed.specs.declared.grant.Grant.{Grant}
use Rattle.slink_feed.specs.declared.grant.Mode.{Mode}
use Rattle.slink_model.specs.declared.world.Setup.{Setup}
use Rattle.slink_model.specs.declared.world.Step.{Step}
use Rattle.slink_model.specs.declared.world.Step.TheVariants.{Append}
use Rattle.slink_feed.specs.Dialogue.{next_at}
use Rattle.slink_feed.specs.Listening.{IsLinked}
use Rattle.slink_feed.specs.Session.{State, called, grant_at, granted}
use Rattle.slink_model.specs.Ties.{AreNext, Holds, Item, WantFirst, of_place, way_bytes}
use Rattle.slink_feed.specs.Window.{Window, oldest_of}
use Rattle.slink_model.specs.World.{AllHappen, Differ, IsOf, LinkState, WorldState, number_at}

-- Of no station where a record is held are 2^24 records or more lacking: those that were pushed after the last one
-- held. `first` is the number of the first record of each station.
abbrev pub LacksFew : ℕ → WorldState → Type 0
LacksFew first w = (k start : ℕ) → number_at w.start k ≡ Some start
    → first + length (slice_index_or w.pushed k []) < start + length (slice_index_or w.held k []) + 2 ^ 24

-- so it is at each moment of a run
abbrev pub LackFew : ℕ → (w : WorldState) (steps : List Step) (v : WorldState) → AllHappen w steps v → Type 0
LackFew first w [] v run = LacksFew first w
LackFew first w (step ∷ steps) v run = LacksFew first w × LackFew first run.0 steps v run.2

-- a record has 512 bytes
abbrev pub IsSound : Step → Type 0
IsSound (Append k bytes) = length bytes ≡ 512
IsSound step = Unit {0}

-- Up to sixteen different stations, and rings of up to a million records. Each step names one of the stations, and a
-- record that is pushed has 512 bytes and is of its station.
pub record IsSchedule (setup : Setup) (steps : List Step) : Type 0 where
  pub few_places : length setup.places.items ≤ 16
  pub capacity : setup.capacity ≤ 1000000
  pub differ : Differ setup.places.items
  pub of_places : All (IsOf setup.places.items) steps
  pub sound : All IsSound steps

-- Of each station one slice of its records is held; while none is, the number that was wanted first is wanted still.
pub record HoldsSlices (places : List (Fields × Option ℕ)) (first : ℕ) (w : WorldState) : Type 0 where
  pub slice : (k : ℕ) → k < length places
      → Holds first (slice_index_or w.pushed k []) (next_at w.client.talk.wants k)
      (slice_index_or w.held k []) (number_at w.start k)
  pub wanted : WantFirst places w.client.talk.wants w.start

-- The record of this number is granted, where it is in the window or is the next one; else there is no grant.
abbrev pub resumed : Window → ℕ → Option ℕ
resumed w number = if nat_le (oldest_of w) number && nat_le number w.next then Some number else None

-- Where something is held of a station, and the number that is wanted next of it is requested, the answer is the grant
-- of the record after the last one held, where there is that grant, and else the refusal.
abbrev pub Resumes : WorldState → Type 0
Resumes w = (k start : ℕ) (ring : Window) (mode : Mode) (s : State) → number_at w.start k ≡ Some start
    → slice_get w.windows k ≡ Some ring
    → called w.windows k mode (next_at w.client.talk.wants k) s
    ≡ granted mode k (resumed ring (start + length (slice_index_or w.held k []))) s

-- What a link has on its way to the client, after the bytes that the client kept, are replies and packets; those of a
-- station are a slice of its records, up to the position of its grant.
pub record IsCarried (places : List (Fields × Option ℕ)) (first : ℕ) (w : WorldState) (l : LinkState) : Type 0 where
  pub items : List Item
  pub bytes : IsLinked w.client.talk.stage → w.client.kept ++ l.to_client ≡ way_bytes items
  pub none : (k : ℕ) → k < length places → grant_at l.session.state.grants k ≡ None → of_place k items ≡ []
  pub slice : (k : ℕ) (g : Grant) → k < length places → grant_at l.session.state.grants k ≡ Some g
      → (n : ℕ) × (first ≤ n) × AreNext first (slice_index_or w.pushed k []) n (of_place k items)
      × (g.position ≡ n + length (of_place k items))
