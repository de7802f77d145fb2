use Rattle.std.proofs.Common.{◌+◌, ◌*◌, ◌^◌, ◌<◌, ◌≤◌, drop}
use Rattle.mseed_steim.specs.private.Lanes.{span}
use Rattle.mseed_steim.proofs.sum.reach_of.Given as goal

abbrev pub invariant-loop-i : goal.invariant-loop-i
invariant-loop-i l = record {
  most : l.most < 2 ^ 32;
  so_far : span l.differences ≤ l.i * l.most + span (drop l.i l.differences);
}
