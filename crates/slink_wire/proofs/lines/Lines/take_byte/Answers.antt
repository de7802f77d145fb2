use Rattle.std.proofs.Common.{arith}
use Rattle.slink_wire.proofs.Stepped.{lf_dropped}
use Rattle.slink_wire.proofs.lines.Lines.take_byte.Goals as goal

pub returns-then-is_empty-2-clause-leads : goal.returns-then-is_empty-2-clause-leads
returns-then-is_empty-2-clause-leads c =
    rw c.if-byte-eq10.true (lf_dropped c.args.self.now (grind arith) c.requires)
