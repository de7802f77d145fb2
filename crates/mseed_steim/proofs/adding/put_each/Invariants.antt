use Rattle.std.proofs.Common.{◌≡◌, length}
use Rattle.mseed_steim.proofs.Summed.{Summed}
use Rattle.mseed_steim.proofs.adding.put_each.Given as goal

abbrev pub invariant-loop-i : goal.invariant-loop-i
invariant-loop-i l = record {
  places : length l.out ≡ length l.fn.out;
  summed : Summed l.differences l.fn.last l.i l.out l.sum;
}
