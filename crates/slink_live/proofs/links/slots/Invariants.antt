use Rattle.std.proofs.Common.{◌≡◌, length}
use Rattle.slink_live.specs.Served.{AreEmpty}
use Rattle.slink_live.proofs.links.slots.Given as goal

abbrev pub invariant-loop-slot : goal.invariant-loop-slot
invariant-loop-slot l = record { empty : AreEmpty l.slots.items; count : length l.slots.items ≡ l.slot }
