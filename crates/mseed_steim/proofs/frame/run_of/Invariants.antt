use Rattle.std.proofs.Common.{◌≡◌, ◌≤◌, ◌+◌, ◌-◌, ◌*◌, ◌^◌, ℕ, ℤ, List, length}
use lib.Lanes.{sum_l}
use Rattle.mseed_steim.specs.Frames.{words_from}
use Rattle.mseed_steim.specs.private.Lanes.{Begins}
use Rattle.mseed_steim.specs.private.Moves.{AreFrames, MovesBy, Raises}
use Rattle.mseed_steim.proofs.frame.run_of.Given as goal

abbrev pub invariant-loop-taken : goal.invariant-loop-taken
invariant-loop-taken l = record {
  inside : l.taken ≤ length l.frames;
  few : l.count ≤ 128 * l.taken;
  most : l.count ≤ l.most;
  lanes : length l.by ≡ 4;
  so_far : (p : List ℕ) (k from : ℕ) → Begins l.begin from → AreFrames l.frames p k
      → (by : ℤ) × (Raises (sum_l l.by) by
      × MovesBy l.scheme (words_from p (16 * k + from) (16 * l.taken - from)) l.count by (2 ^ 20 * l.taken));
}

abbrev pub decreases-loop-taken : goal.decreases-loop-taken
decreases-loop-taken l = length l.frames - l.taken
