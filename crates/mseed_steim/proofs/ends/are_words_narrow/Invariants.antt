use Rattle.std.proofs.Common.{ℕ, ◌+◌, ◌*◌, ◌<◌}
use Rattle.mseed_steim.specs.Nearness.{IsNarrowAt}
use Rattle.mseed_steim.proofs.ends.are_words_narrow.Given as goal

abbrev pub invariant-loop-place : goal.invariant-loop-place
invariant-loop-place l = (k : ℕ) → 16 * l.frame < k → k < 16 * l.frame + l.place → IsNarrowAt l.payload k
