use Rattle.std.proofs.Common.{◌-◌, ◌≡◌, ◌+◌, ◌≤◌, ◌<◌, ◌^◌, drop}
use Rattle.mseed_join.specs.private.Reading.{more_at}
use Rattle.mseed_join.proofs.numbers.few_more_at.Given as goal

abbrev pub invariant-loop-count : goal.invariant-loop-count
invariant-loop-count l =
    (l.count ≤ l.digits) × (l.number < 10 ^ (l.count + 1))
    × (more_at l.number (drop l.count l.bytes) ≡ more_at l.first l.bytes)

abbrev pub decreases-loop-count : goal.decreases-loop-count
decreases-loop-count l = l.digits - l.count
