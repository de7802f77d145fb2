use Rattle.std.proofs.Common.{◌≡◌, map, take, None}
use Rattle.slink_model.proofs.schedule.numbers.Given as goal

abbrev pub invariant-loop : goal.invariant-loop
invariant-loop l = (l.numbers.items ≡ map (λ p. None) (take l.index l.setup.places.items))
