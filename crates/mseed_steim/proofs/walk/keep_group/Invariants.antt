use Rattle.mseed_steim.specs.private.Items.{Items}
use Rattle.std.proofs.Common.{◌≡◌, ◌-◌, ◌≤◌, ◌++◌, map, length, Ok}
use Rattle.mseed_steim.specs.private.Digits.{digits}
use Rattle.mseed_steim.specs.private.Sums.{Continues, places_for}
use Rattle.mseed_steim.proofs.walk.keep_group.Given as goal

abbrev pub invariant-loop-i : goal.invariant-loop-i
invariant-loop-i g l = record {
  places : length l.out ≡ places_for g.K.Keeper.kept l.samples;
  met : l.sum.met ≤ l.samples;
  walked : (more : Items) → Continues g.K.Keeper.kept l.samples l.fn.sum l.fn.out
      (map Ok (digits l.group.width l.word l.group.count) ++ more)
      (map Ok (digits l.group.width l.word (l.group.count - l.i)) ++ more) l.out l.sum;
}
