use Rattle.std.proofs.Common.{arith, refl}
use Rattle.slink_wire.proofs.Worded.{first_is, no_word}
use Rattle.slink_wire.proofs.words.first_word.Goals as goal

pub returns-then-start-line : goal.returns-then-start-line
returns-then-start-line c =
    no_word c.args.line.now c.first_other-start.result c.first_other-start.ensures.value c.if-start-line.true

pub returns : goal.returns
returns c = first_is c.args.line.now _ c.first_other-start.result c.first-end.result c.first_other-start.ensures.value
    (omega arith) refl c.first-end.ensures.value
