use Rattle.std.proofs.Common.{◌-◌, length}
use Rattle.mseed_record.proofs.Whole.{IsAhead}
use Rattle.mseed_record.proofs.chain.first_1000_of.Given as goal

abbrev pub invariant-chain : goal.invariant-chain
invariant-chain l = IsAhead l.order l.bytes l.offset

abbrev pub decreases-chain : goal.decreases-chain
decreases-chain l = length l.bytes - l.offset
