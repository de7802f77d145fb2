use Rattle.std.proofs.Common.{◌-◌, ◌≡◌, ◌≤◌, ◌<◌, ℕ, true, get_or, length}
use Rattle.mseed_join.specs.private.Reading.{is_digit}
use Rattle.mseed_join.proofs.numbers.digits_one_by_one.Given as goal

abbrev pub invariant-loop-count : goal.invariant-loop-count
invariant-loop-count l =
    (l.count ≤ length l.bytes) × ((k : ℕ) → k < l.count → is_digit (get_or l.bytes k 0) ≡ true)

abbrev pub decreases-loop-count : goal.decreases-loop-count
decreases-loop-count l = length l.bytes - l.count
