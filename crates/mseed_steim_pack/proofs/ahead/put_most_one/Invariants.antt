use Rattle.std.proofs.Common.{◌≡◌, ◌<◌, ◌*◌, ℕ, get_or, length}
use Rattle.mseed_steim_pack.specs.private.Ahead.{most_one}
use Rattle.mseed_steim_pack.proofs.ahead.put_most_one.Given as goal

abbrev pub invariant-loop-turn : goal.invariant-loop-turn
invariant-loop-turn g l = record {
  room : length l.most ≡ 144;
  done : (i : ℕ) → i < 16 * l.turn → get_or l.most i 0 ≡ most_one (get_or l.sizes i 0);
}
