use Rattle.std.proofs.Common.{◌≡◌, ◌<◌, ◌≤◌, ◌*◌, ℕ, get_or, length}
use Rattle.mseed_steim_pack.specs.private.Ahead.{IsMost}
use Rattle.mseed_steim_pack.proofs.ahead.bound.Given as goal

abbrev pub invariant-loop-turn : goal.invariant-loop-turn
invariant-loop-turn l = record {
  room : length l.held ≡ 144;
  done : (i : ℕ) → i < 16 * l.turn → IsMost l.fn.held i (get_or l.held i 0);
  rest : (i : ℕ) → 16 * l.turn ≤ i → get_or l.held i 0 ≡ get_or l.fn.held i 0;
}
