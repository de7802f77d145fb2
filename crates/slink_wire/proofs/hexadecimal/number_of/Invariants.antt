use Rattle.slink_wire.proofs.Digits.{Reads}
use Rattle.slink_wire.proofs.hexadecimal.number_of.Given as goal

abbrev pub invariant-loop-byte : goal.invariant-loop-byte
invariant-loop-byte l = Reads l.digits l.byte-index l.number
