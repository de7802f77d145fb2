use Rattle.std.proofs.Common.{◌<◌, arith, length, List}
use Rattle.slink_feed.specs.declared.feed.FeedFault.{FeedFault}
use Rattle.slink_feed.specs.declared.feed.FeedFault.TheVariants.{Full, Double}
use Rattle.slink_feed.specs.Fault.{IsFeedFault}
use Rattle.slink_feed.specs.Rings.{HasPlace}
use Rattle.slink_feed.specs.Window.{Window}
use Rattle.slink_feed.proofs.feed.Feed.add_other.Goals as goal

-- a feed with room takes the ring of another station
takes_ring : {A : Type 0} (e : FeedFault A) (feed : List Window) (ring : Window) → length feed < 16
    → ¬ (HasPlace feed ring.place) → IsFeedFault e feed ring → ⊥
takes_ring (Full back) feed ring room differs is = omega (arith, room, is.0)
takes_ring (Double back) feed ring room differs is = differs is.1

pub unreachable-requires : goal.unreachable-requires
unreachable-requires g c =
    takes_ring c.in-Err-Full.field-0 c.args.self.now c.args.ring c.requires.room c.requires.differs
    c.in-Err-Full.ensures.fault
