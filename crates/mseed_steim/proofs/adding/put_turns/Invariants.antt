use Rattle.std.proofs.Common.{◌≡◌, ◌+◌, ◌-◌, ◌*◌, length, map, get_or, drop, pos, w32, to_z}
use Rattle.mseed_steim.specs.private.Lanes.{span}
use Rattle.mseed_steim.specs.private.Sums.{IsWindow}
use Rattle.mseed_steim.proofs.Summed.{Summed}
use Rattle.mseed_steim.proofs.adding.put_turns.Given as goal

abbrev pub invariant-loop-turn : goal.invariant-loop-turn
invariant-loop-turn l = record {
  places : length l.out ≡ length l.fn.out;
  summed : Summed l.differences l.fn.last (4 + 8 * l.turn) l.out (get_or (map (to_z w32) l.sums) 3 (pos 0));
  window : IsWindow (span (drop (4 + 8 * l.turn) l.differences))
      (get_or l.differences (4 + 8 * l.turn - 1) (pos 0)) (map (to_z w32) l.sums) (map (to_z w32) l.pairs);
}
