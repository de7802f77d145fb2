use Rattle.std.proofs.Common.{◌≡◌, length}
use Rattle.slink_live.proofs.links.no_grants.Given as goal

abbrev pub invariant-loop-slot : goal.invariant-loop-slot
invariant-loop-slot l = record { count : length l.granted.items ≡ l.slot }
