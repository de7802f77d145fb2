use Rattle.std.proofs.Common.{◌-◌, ◌+◌, ◌≤◌, length, IfSome}
use Rattle.mseed_record.specs.Chain.{type_at, head_of}
use Rattle.mseed_record.proofs.Whole.{Left}
use Rattle.mseed_record.proofs.chain.blockettes_by.Given as goal

abbrev pub invariant-chain : goal.invariant-chain
invariant-chain l = (l.offset + 4 ≤ length l.bytes)
    × (l.offset + head_of (type_at l.order l.bytes l.offset) ≤ length l.bytes)
    × Left l.order l.bytes l.found l.offset
    × IfSome l.found.first_1001 (λ o. o + 8 ≤ length l.bytes)

abbrev pub decreases-chain : goal.decreases-chain
decreases-chain l = length l.bytes - l.offset
