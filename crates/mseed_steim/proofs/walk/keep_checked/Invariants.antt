use Rattle.mseed_steim.specs.private.Items.{Items}
use Rattle.std.proofs.Common.{◌≡◌, ◌+◌, ◌++◌, map, drop, length, Ok}
use Rattle.mseed_steim.specs.private.Sums.{Continues, places_for}
use Rattle.mseed_steim.proofs.walk.keep_checked.Given as goal

abbrev pub invariant-loop-i : goal.invariant-loop-i
invariant-loop-i g l = record {
  places : length l.out ≡ places_for g.K.Keeper.kept l.samples;
  met : l.sum.met ≡ l.fn.sum.met + l.i;
  walked : (more : Items) → Continues g.K.Keeper.kept l.samples l.fn.sum l.fn.out
      (map Ok l.differences ++ more) (map Ok (drop l.i l.differences) ++ more) l.out l.sum;
}
