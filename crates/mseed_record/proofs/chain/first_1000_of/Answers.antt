use Rattle.std.proofs.Common.{◌∙◌}
use Rattle.mseed_record.proofs.Whole.{ahead_next}
use Rattle.mseed_record.proofs.chain.first_1000_of.Goals as goal

pub chain-preserved : goal.chain-preserved
chain-preserved c =
    let on = ahead_next c.args.order c.args.bytes.now c.chain.offset c.chain.invariant
    (λ t. c.chain-test.true (c.u16_at-in-chain.ensures ∙ t)) in
    rw (c.from-offset-in-chain.ensures ∙ c.u16_at-in-chain-2.ensures) on.1
