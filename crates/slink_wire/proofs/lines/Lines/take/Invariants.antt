use Rattle.slink_wire.proofs.Stepped.{TakenTo}
use Rattle.slink_wire.proofs.lines.Lines.take.Given as goal

abbrev pub invariant-loop-i : goal.invariant-loop-i
invariant-loop-i l = TakenTo l.fn.self l.self l.piece l.i
