use Rattle.std.proofs.Common.{◌≡◌, [], map, take}
use Rattle.slink_model.specs.World.{lists_of}
use Rattle.slink_model.proofs.schedule.lists.Given as goal

abbrev pub invariant-loop : goal.invariant-loop
invariant-loop l = (lists_of l.lists ≡ map (λ p. []) (take l.index l.setup.places.items))
