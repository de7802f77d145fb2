use Rattle.std.proofs.Common.{arith}
use Rattle.std.proofs.lemmas.List.{take_rest}
use Rattle.slink_wire.proofs.Cuts.{lacks_all, parts_at}
use Rattle.slink_wire.proofs.cut.parts.Goals as goal

pub returns-then-end-bytes : goal.returns-then-end-bytes
returns-then-end-bytes c =
    lacks_all c.args.bytes.now c.args.byte c.first-end.result c.first-end.ensures.value c.if-end-bytes.true

pub returns : goal.returns
returns c =
    simp take_rest (parts_at c.args.bytes.now c.args.byte c.first-end.result c.first-end.ensures.value (omega arith))
