use Rattle.std.proofs.Common.{◌≡◌, ◌+◌, ◌≤◌, drop, ◌+ℤ◌, nat_abs}
use Rattle.mseed_steim.specs.private.Lanes.{span, total}
use Rattle.mseed_steim.proofs.sum.add_all.Given as goal

abbrev pub invariant-loop-i : goal.invariant-loop-i
invariant-loop-i l = record {
  near : nat_abs l.sum + span (drop l.i l.differences) ≤ nat_abs l.fn.last + span l.differences;
  moved : l.sum +ℤ total (drop l.i l.differences) ≡ l.fn.last +ℤ total l.differences;
}
