use Rattle.std.proofs.Common.{◌-◌, length}
use Rattle.mseed_record.specs.Framer.{HasReached}
use Rattle.mseed_record.proofs.framer.go_along.Given as goal

abbrev pub invariant-chain : goal.invariant-chain
invariant-chain l = HasReached (record { order = l.order; low = l.low; offset = l.offset }) l.prefix

abbrev pub decreases-chain : goal.decreases-chain
decreases-chain l = length l.prefix - l.low
