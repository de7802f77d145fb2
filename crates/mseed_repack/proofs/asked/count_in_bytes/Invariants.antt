use Rattle.std.proofs.Common.{◌-◌, length}
use Rattle.mseed_repack.proofs.Untimed.{IsCountedTo}
use Rattle.mseed_repack.proofs.asked.count_in_bytes.Given as goal

abbrev pub invariant-loop-offset : goal.invariant-loop-offset
invariant-loop-offset g l = IsCountedTo (g.C.Choice.selection l.choice) l.bytes l.offset l.count

abbrev pub decreases-loop-offset : goal.decreases-loop-offset
decreases-loop-offset g l = length l.bytes - l.offset
