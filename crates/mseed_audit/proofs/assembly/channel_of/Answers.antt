use Rattle.mseed_record.specs.declared.view.RecordView.{RecordView}
use Rattle.mseed_audit.proofs.Following.{offset_next, stands_next}
use Rattle.mseed_audit.proofs.assembly.channel_of.Goals as goal

pub loop-index-preserved : goal.loop-index-preserved
loop-index-preserved c =
    let inv = c.loop-index.invariant in
    let view : RecordView = c.index-views-index.result in
    let offset = offset_next c.args.views.now c.loop-index.index view c.loop-index.offset c.bytes.result.now
    c.loop-index-test.true c.index-views-index.is inv.2 inv.3 c.bytes.ensures.view c.bytes.ensures.value in
    let stands = stands_next c.args.codes.now c.args.views.now c.loop-index.index view c.loop-index.offset
    c.loop-index.channel c.channel_with-channel.result c.loop-index-test.true c.index-views-index.is inv.2 inv.0
    c.channel_with-channel.ensures.stands in
    (stands, c.channel_with-channel.ensures.bounded c.loop-index.index inv.1, offset.0, offset.1)
