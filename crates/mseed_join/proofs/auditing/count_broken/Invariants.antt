use Rattle.std.proofs.Common.{◌≡◌, ◌≤◌, map, take}
use Rattle.mseed_audit.specs.Summary.{broken_count}
use Rattle.mseed_join.specs.Joined.{verdict_at}
use Rattle.mseed_join.proofs.auditing.count_broken.Given as goal

abbrev pub invariant-loop-channel : goal.invariant-loop-channel
invariant-loop-channel l =
    (l.broken ≡ broken_count (map verdict_at (take l.channel-index l.channels))) × (l.broken ≤ l.channel-index)
