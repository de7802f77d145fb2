use Rattle.std.proofs.Common.{◌<◌, ◌^◌, sym, ◌∙◌}
use Rattle.mseed_record.specs.declared.framer.Reached.{Reached}
use Rattle.mseed_record.proofs.Reached.{reached_decides, reached_next}
use Rattle.mseed_record.proofs.framer.go_along.Goals as goal

pub returns-in-Some-clause-decides : goal.returns-in-Some-clause-decides
returns-in-Some-clause-decides c =
    let here : Reached = record { order = c.args.from.order; low = c.chain.low; offset = c.chain.offset } in
    reached_decides here c.args.prefix.now c.in-Some.answer c.chain.invariant (sym c.at_offset.ensures ∙ c.in-Some.is)

pub chain-preserved : goal.chain-preserved
chain-preserved c =
    let here : Reached = record { order = c.args.from.order; low = c.chain.low; offset = c.chain.offset } in
    let small : c.from-offset.result < 2 ^ 16 = rw c.from-offset.ensures c.u16_at.type_inv in
    reached_next here c.args.prefix.now c.from-offset.result c.chain.invariant (sym c.at_offset.ensures
    ∙ c.in_default.is) (c.from-offset.ensures ∙ c.u16_at.ensures) small
