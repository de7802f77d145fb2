-- Why there is no ring, and why a feed doesn't take one.
use Rattle.std.specs.Prelude.{◌≡◌, ℕ, ◌^◌, ◌<◌, ◌≤◌, ◌⊎◌, List, length}
use Rattle.slink_feed.specs.declared.feed.FeedFault.{FeedFault}
use Rattle.slink_feed.specs.declared.feed.FeedFault.TheVariants.{Full, Double}
use Rattle.slink_feed.specs.declared.ring.RingFault.{RingFault}
use Rattle.slink_feed.specs.declared.ring.RingFault.TheVariants.{Capacity, First, Memory}
use Rattle.slink_feed.specs.Rings.{HasPlace}
use Rattle.slink_feed.specs.Window.{Window}

-- from one record to a million
abbrev pub IsCapacity : ℕ → Type 0
IsCapacity capacity = (0 < capacity) × (capacity ≤ 1000000)

-- the first that applies; where memory lacks, neither of the others does
abbrev pub IsRingFault : RingFault → ℕ → ℕ → Type 0
IsRingFault Capacity capacity first = (capacity ≡ 0) ⊎ (1000000 < capacity)
IsRingFault First capacity first = IsCapacity capacity × (2 ^ 24 ≤ first)
IsRingFault Memory capacity first = IsCapacity capacity × (first < 2 ^ 24)

-- The ring comes back, since there are sixteen already, or else since one has its station.
abbrev pub IsFeedFault : {A : Type 0} → FeedFault A → List Window → Window → Type 0
IsFeedFault (Full back) feed ring = (length feed ≡ 16) × (back ≡ ring)
IsFeedFault (Double back) feed ring = (length feed < 16) × HasPlace feed ring.place × (back ≡ ring)
