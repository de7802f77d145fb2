use Rattle.std.proofs.Common.{◌≡◌, map, take}
use Rattle.slink_model.specs.World.{empty_window}
use Rattle.slink_model.proofs.schedule.feed_of.Given as goal

abbrev pub invariant-loop-place : goal.invariant-loop-place
invariant-loop-place l = (l.feed ≡ map (empty_window l.setup) (take l.place-index l.setup.places.items))
