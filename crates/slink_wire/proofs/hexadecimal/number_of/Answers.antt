use Rattle.std.proofs.Common.{arith}
use Rattle.slink_wire.proofs.Digits.{none_written, reads_fits, reads_more, reads_none}
use Rattle.slink_wire.proofs.hexadecimal.number_of.Goals as goal

pub loop-byte-init : goal.loop-byte-init
loop-byte-init c = reads_none c.args.digits.now

pub overflow_add-number : goal.overflow_add-number
overflow_add-number c = omega (
  arith,
  reads_fits _ _ _ c.in-Some.digit (omega arith) c.in-Some.ensures.small c.loop-byte.invariant,
)

pub loop-byte-preserved : goal.loop-byte-preserved
loop-byte-preserved c = reads_more c.args.digits.now c.loop-byte.byte-index c.loop-byte.number c.in-Some.digit
    (omega arith) c.in-Some.ensures.small c.in-Some.ensures.value c.loop-byte.invariant

pub returns-in-None-clause-none : goal.returns-in-None-clause-none
returns-in-None-clause-none c =
    none_written c.args.digits.now c.loop-byte.byte-index (omega arith) c.in-None.ensures.none
