use Rattle.mseed_repack.proofs.Packabilities.{tells_next, tells_none}
use Rattle.mseed_repack.proofs.refusing.report_left_out.Goals as goal

pub loop-number-init : goal.loop-number-init
loop-number-init g c = tells_none c.args.encoding (g.E.Sink.written c.args.errors.now)

pub loop-number-preserved : goal.loop-number-preserved
loop-number-preserved g c =
    let channel = c.index-channels-number.result in
    let packability = c.index-packabilities-number.result in
    let old = g.E.Sink.written c.loop-number.errors in
    let new = g.E.Sink.written c.report_packability.new.errors in
    let reported = rw c.index-packabilities-number.is at c.report_packability.ensures in
    tells_next c.args.encoding c.args.channels.now c.args.packabilities.now c.loop-number.number channel packability
    (g.E.Sink.written c.args.errors.now) old new c.loop-number-test.true c.requires c.index-channels-number.is
    c.loop-number.invariant reported
