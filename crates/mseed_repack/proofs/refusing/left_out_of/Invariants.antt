use Rattle.std.proofs.Common.{◌≡◌, ◌-◌, drop, length}
use Rattle.mseed_repack.specs.ByStretches.{left_out_of}
use Rattle.mseed_repack.proofs.refusing.left_out_of.Given as goal

abbrev pub invariant-loop-turn : goal.invariant-loop-turn
invariant-loop-turn l = l.left ≡ left_out_of (drop (length l.packabilities - l.turn) l.packabilities)
