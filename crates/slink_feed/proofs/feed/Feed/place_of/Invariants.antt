use Rattle.std.proofs.Common.{◌≡◌, ◌<◌, ℕ, Some, slice_get}
use Rattle.slink_wire.specs.Place.{Bears}
use Rattle.slink_feed.specs.Window.{Window}
use Rattle.slink_feed.proofs.feed.Feed.place_of.Given as goal

-- none of those before carries it
abbrev pub invariant-loop-k : goal.invariant-loop-k
invariant-loop-k g l = (j : ℕ) (w : Window) → j < l.k → slice_get l.self j ≡ Some w → ¬ (Bears l.bytes w.place)
