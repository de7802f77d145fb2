-- What a link is sent, by slink_feed's own definitions: replies, and then packets of slices of the records.
use Rattle.std.specs.Prelude.{◌≡◌, ℕ, Bool, false, not, ◌&&◌, zero, suc, List, [], ◌∷◌, ◌++◌, Some, slice_get}
use Rattle.std.specs.List.{filter}
use Rattle.slink_wire.specs.declared.reply.Reply.{Reply}
use Rattle.slink_wire.specs.Place.{Fields}
use Rattle.slink_wire.specs.Reply.{reply_bytes}
use Rattle.slink_feed.specs.declared.grant.Grant.{Grant}
use Rattle.slink_feed.specs.declared.session.Phase.TheVariants.{Streaming}
use Rattle.slink_feed.specs.Connection.{bytes_sent}
use Rattle.slink_feed.specs.Sending.{AreCalled, Called, IsSlice, packets_of}
use Rattle.slink_feed.specs.Session.{State, grant_at}
use Rattle.slink_feed.specs.Window.{Shows, Window}
use Rattle.slink_feed.specs.Intake.{is_of_station, places_of}

-- whether the station at an index is the first one that a record is of
abbrev pub is_first : ℕ → List Fields → List ℕ → Bool
is_first k [] bytes = false
is_first zero (p ∷ ps) bytes = is_of_station p bytes
is_first (suc k) (p ∷ ps) bytes = not (is_of_station p bytes) && is_first k ps bytes

-- the records of the station at an index
abbrev pub records_at : ℕ → List Fields → List (List ℕ) → List (List ℕ)
records_at k places records = filter (is_first k places) records

-- the bytes of replies, one after another
abbrev pub all_replies : List Reply → List ℕ
all_replies [] = []
all_replies (r ∷ rs) = reply_bytes r ++ all_replies rs

-- Of an input of these records a session sent these bytes: replies; and, once it streamed from this state on, packets,
-- and `END` where all that was requested was sent. The packets of each station that has a grant are those of a slice of
-- its records from the grant on, whatever the ring had in the beginning.
pub data ProducesSlices (start : List Window) (records : List (List ℕ)) (produced : List ℕ) : Type 0 where
  replies_alone : (replies : List Reply) → produced ≡ all_replies replies → ProducesSlices start records produced
  streams : (replies : List Reply) (s : State) (called : List Called) → s.phase ≡ Streaming → AreCalled s called
      → produced ≡ all_replies replies ++ bytes_sent called
      → ((k first : ℕ) (w : Window) (pushed : List (List ℕ)) (g : Grant) → slice_get start k ≡ Some w
      → Shows w first pushed → grant_at s.grants k ≡ Some g
      → IsSlice first (pushed ++ records_at k (places_of start) records) g.position (packets_of k called))
      → ProducesSlices start records produced
