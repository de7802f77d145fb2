use Rattle.std.proofs.Common.{rules}
use Rattle.slink_wire.specs.Command.{folded, words}
use Rattle.slink_wire.proofs.Written.{one_command}
use Rattle.slink_wire.proofs.command.Command.read.Goals as goal

pub returns-in-Two-clause-only : goal.returns-in-Two-clause-only
returns-in-Two-clause-only c = λ d h. one_command (folded (words c.args.line.now)) c.with_word.result d (search rules) h
