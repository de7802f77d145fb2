use Rattle.std.proofs.Common.{◌≡◌, ◌<◌, ◌*◌, ℕ, get_or, length, pos}
use Rattle.mseed_steim_pack.specs.private.Ahead.{most_two, size_of}
use Rattle.mseed_steim_pack.proofs.ahead.put_most_two.Given as goal

abbrev pub invariant-loop-turn : goal.invariant-loop-turn
invariant-loop-turn l = record {
  room : length l.most ≡ 144;
  done : (i : ℕ) → i < 16 * l.turn → get_or l.most i 0 ≡ most_two (size_of (get_or l.cut i (pos 0)));
}
