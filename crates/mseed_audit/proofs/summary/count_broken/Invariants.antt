use Rattle.std.proofs.Common.{◌≡◌, ◌≤◌, take}
use Rattle.mseed_audit.specs.Summary.{broken_count}
use Rattle.mseed_audit.proofs.summary.count_broken.Given as goal

abbrev pub invariant-loop-verdict : goal.invariant-loop-verdict
invariant-loop-verdict l = (l.broken ≡ broken_count (take l.verdict-index l.verdicts)) × (l.broken ≤ l.verdict-index)
