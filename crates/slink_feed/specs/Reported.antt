-- What a client reports, over any links: the records of its stations.
use Rattle.std.specs.Prelude.{◌≡◌, ℕ, Bool, ◌==◌, List, [], ◌∷◌, ◌++◌, length, map, Option, Some, option_map}
use Rattle.std.specs.Prelude.{if◌then◌else◌}
use Rattle.slink_wire.specs.Place.{Fields}
use Rattle.slink_feed.specs.declared.dialogue.Event.{Event}
use Rattle.slink_feed.specs.declared.dialogue.Event.TheVariants as events
use Rattle.slink_feed.specs.Delivered.{Numbered}
use Rattle.slink_feed.specs.Dialogue.{Wants, place_of, next_at}
use Rattle.slink_feed.specs.Holding.{GoBy}

-- the record that an event reports, where it is one
abbrev pub record_in : Event → List Numbered
record_in (events.Record k number bytes) = record { place = k; number = number; bytes = bytes } ∷ []
record_in event = []

-- the records that events report, in their order
abbrev pub records_reported : List Event → List Numbered
records_reported [] = []
records_reported (e ∷ es) = record_in e ++ records_reported es

-- the numbers of the records of a station
abbrev pub numbers_at : ℕ → List Numbered → List ℕ
numbers_at k [] = []
numbers_at k (r ∷ rs) = (if r.place == k then r.number ∷ [] else []) ++ numbers_at k rs

-- the bytes of records, one after another
abbrev pub bytes_in : List Numbered → List ℕ
bytes_in [] = []
bytes_in (r ∷ rs) = r.bytes ++ bytes_in rs

-- Each has 512 bytes, and is of its station, the first such of those that are requested.
abbrev pub AreOf : Wants → List Numbered → Type 0
AreOf wants [] = Unit {0}
AreOf wants (r ∷ rs) = (length r.bytes ≡ 512) × (place_of wants r.bytes ≡ Some r.place) × AreOf wants rs

-- the stations that are requested
abbrev pub places_of : Wants → List (Option Fields)
places_of wants = map (option_map (λ w. w.place)) wants

-- A client reported these records: each is a whole one of one of its stations, which stay. The numbers of those of a
-- station go up, from the one that it wanted, if any, to the one before the next that it wants: one by one, or, past
-- holes, with some left out.
pub record HasReported (holes : Bool) (old new : Wants) (records : List Numbered) : Type 0 where
  pub places : places_of new ≡ places_of old
  pub are_of : AreOf old records
  pub go_on : (k : ℕ) → GoBy holes (next_at old k) (numbers_at k records) (next_at new k)
