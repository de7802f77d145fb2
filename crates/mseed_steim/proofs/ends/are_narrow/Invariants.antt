use Rattle.std.proofs.Common.{ℕ, ◌≢◌, ◌*◌, ◌%◌, ◌<◌}
use Rattle.mseed_steim.specs.Nearness.{IsNarrowAt}
use Rattle.mseed_steim.proofs.ends.are_narrow.Given as goal

abbrev pub invariant-loop-frame : goal.invariant-loop-frame
invariant-loop-frame l = (k : ℕ) → k < 16 * l.frame → k % 16 ≢ 0 → IsNarrowAt l.payload k
