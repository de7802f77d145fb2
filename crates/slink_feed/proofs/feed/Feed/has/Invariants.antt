use Rattle.std.proofs.Common.{take}
use Rattle.slink_feed.specs.Rings.{LacksPlace}
use Rattle.slink_feed.proofs.feed.Feed.has.Given as goal

abbrev pub invariant-loop-k : goal.invariant-loop-k
invariant-loop-k g l = LacksPlace (take l.k l.self) l.place
