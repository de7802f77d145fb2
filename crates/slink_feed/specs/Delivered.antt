-- The packets of a link that is cut off at any byte.
use Rattle.std.specs.Prelude.{◌≡◌, ℕ, ◌+◌, ◌%◌, ◌^◌, ◌<◌, List, [], ◌∷◌, ◌++◌, length, Some, IfSome}
use Rattle.slink_wire.specs.Packet.{packet_bytes}
use Rattle.slink_feed.specs.declared.dialogue.Event.{Event}
use Rattle.slink_feed.specs.declared.dialogue.Event.TheVariants as events
use Rattle.slink_feed.specs.Dialogue.{Packet, Talk, Wants, heard, place_of, next_at, reported}

-- a record of the station at an index, with its number modulo 2^24
pub record Numbered : Type 0 where
  pub place : ℕ
  pub number : ℕ
  pub bytes : List ℕ

-- Each is a record of its station, and of the number that this station then wants, if it wants one.
abbrev pub AreWanted : Talk → List Numbered → Type 0
AreWanted t [] = Unit {0}
AreWanted t (r ∷ rs) = (length r.bytes ≡ 512) × (r.number < 2 ^ 24) × (place_of t.wants r.bytes ≡ Some r.place)
    × IfSome (next_at t.wants r.place) (λ want. r.number ≡ want)
    × AreWanted (reported r.place r.number r.bytes (heard (Packet r.number r.bytes) t)).0 rs

-- the bytes of their packets, one after another
abbrev pub all_packets : List Numbered → List ℕ
all_packets [] = []
all_packets (r ∷ rs) = packet_bytes r.number r.bytes ++ all_packets rs

-- the events that report them
abbrev pub record_events : List Numbered → List Event
record_events [] = []
record_events (r ∷ rs) = events.Record r.place r.number r.bytes ∷ record_events rs

-- records of a station, the first of which has this number
abbrev pub numbered : ℕ → ℕ → List (List ℕ) → List Numbered
numbered k number [] = []
numbered k number (r ∷ rs) = record { place = k; number = number % 2 ^ 24; bytes = r } ∷ numbered k (number + 1) rs

-- Each has 512 bytes, and is of this station, the first such of those that are requested.
abbrev pub AreOfPlace : Wants → ℕ → List (List ℕ) → Type 0
AreOfPlace wants k [] = Unit {0}
AreOfPlace wants k (r ∷ rs) = (length r ≡ 512) × (place_of wants r ≡ Some k) × AreOfPlace wants k rs

-- packets, one after another
abbrev pub joined : List (List ℕ) → List ℕ
joined [] = []
joined (p ∷ ps) = p ++ joined ps
