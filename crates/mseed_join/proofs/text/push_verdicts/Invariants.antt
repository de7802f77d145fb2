use Rattle.std.proofs.Common.{◌≡◌, ◌++◌, map, take}
use Rattle.mseed_audit.specs.Text.{verdict_lines}
use Rattle.mseed_join.specs.Joined.{verdict_at}
use Rattle.mseed_join.proofs.text.push_verdicts.Given as goal

abbrev pub invariant-loop-codes : goal.invariant-loop-codes
invariant-loop-codes g l =
    l.text.items ≡ l.fn.text.items ++ verdict_lines (map verdict_at (take l.codes-index l.channels))
