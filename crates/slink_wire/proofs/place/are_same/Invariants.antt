use Rattle.std.proofs.Common.{◌≡◌, take}
use Rattle.slink_wire.proofs.place.are_same.Given as goal

abbrev pub invariant-loop-i : goal.invariant-loop-i
invariant-loop-i l = take l.i l.bytes ≡ take l.i l.field
