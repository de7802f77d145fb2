use Rattle.std.proofs.Common.{◌≡◌, ◌++◌, take}
use Rattle.mseed_audit.specs.Text.{verdict_lines}
use Rattle.mseed_audit.proofs.text.push_verdicts.Given as goal

abbrev pub invariant-loop-codes : goal.invariant-loop-codes
invariant-loop-codes g l = l.text.items ≡ l.fn.text.items ++ verdict_lines (take l.codes-index l.verdicts)
