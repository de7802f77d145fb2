use Rattle.std.proofs.Common.{◌≡◌, drop}
use Rattle.std.specs.List.{position_from}
use Rattle.slink_wire.specs.Place.{matches}
use Rattle.slink_feed.specs.Rings.{station_at}
use Rattle.slink_feed.proofs.feed.Feed.find.Given as goal

-- the first that matches is among those after
abbrev pub invariant-loop-k : goal.invariant-loop-k
invariant-loop-k g l = station_at l.self l.sta l.net ≡ position_from (λ w. matches w.place l.sta l.net) l.k
    (drop l.k l.self)
