-- What one session sends of a station.
use Rattle.std.specs.Prelude.{◌≡◌, ℕ, ◌+◌, ◌-◌, ◌%◌, ◌^◌, ◌==◌, ◌⊎◌, List, [], ◌∷◌, ◌++◌, length, take, drop}
use Rattle.std.specs.Prelude.{if◌then◌else◌, Some, slice_get}
use Rattle.slink_wire.specs.Packet.{packet_bytes}
use Rattle.slink_feed.specs.declared.session.Phase.TheVariants.{Closed}
use Rattle.slink_feed.specs.declared.session.Sent.{Sent}
use Rattle.slink_feed.specs.declared.session.Sent.TheVariants as Sents
use Rattle.slink_feed.specs.Session.{State, at, sent}
use Rattle.slink_feed.specs.Window.{Shows, Window}

-- A packet of a station was requested of a session that streams: the feed as it stood, the station, and what was sent.
pub record Called : Type 0 where
  pub feed : List Window
  pub place : ℕ
  pub answer : Sent

-- The session is as it was, or closed: so a line leaves it while it streams.
abbrev pub IsReadFrom : State → State → Type 0
IsReadFrom s new = (new ≡ s) ⊎ (new ≡ at Closed s.grants)

-- It was called again and again, with any lines in between.
abbrev pub AreCalled : State → List Called → Type 0
AreCalled s [] = Unit {0}
AreCalled s (a ∷ more) = (t : State) × IsReadFrom s t × ((sent a.feed t a.place).1 ≡ a.answer)
    × AreCalled (sent a.feed t a.place).0 more

-- the packets that were sent of a station
abbrev pub packet_in : Sent → List (List ℕ)
packet_in (Sents.Packet bytes) = bytes ∷ []
packet_in answer = []

abbrev pub packets_of : ℕ → List Called → List (List ℕ)
packets_of k [] = []
packets_of k (a ∷ more) = (if a.place == k then packet_in a.answer else []) ++ packets_of k more

-- the ring of the station shows the last of the records that were pushed so far, which are a prefix of these
abbrev pub AreShown : ℕ → ℕ → List (List ℕ) → List Called → Type 0
AreShown k first pushed [] = Unit {0}
AreShown k first pushed (a ∷ more) =
    ((w : Window) × (n : ℕ) × (slice_get a.feed k ≡ Some w) × Shows w first (take n pushed))
    × AreShown k first pushed more

-- records with their numbers from one on, as packets
abbrev pub packets_from : ℕ → List (List ℕ) → List (List ℕ)
packets_from number [] = []
packets_from number (r ∷ rs) = packet_bytes (number % 2 ^ 24) r ∷ packets_from (number + 1) rs

-- The packets are those of a slice of the pushed records that begins at a number, one after another.
abbrev pub IsSlice : ℕ → List (List ℕ) → ℕ → List (List ℕ) → Type 0
IsSlice first pushed number packets =
    packets ≡ packets_from number (take (length packets) (drop (number - first) pushed))
