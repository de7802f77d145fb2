use Rattle.std.proofs.Common.{arith, take_all}
use Rattle.slink_feed.specs.Reporter.{none}
use Rattle.mseed_feed.proofs.Kept.{reported_more}
use Rattle.mseed_feed.proofs.keeping.report_kept.Goals as goal

pub loop-k-init : goal.loop-k-init
loop-k-init g c = none (g.E.Sink.written c.args.errors.now)

pub loop-k-preserved : goal.loop-k-preserved
loop-k-preserved g c =
    reported_more c.args.serving.now c.args.feed.now c.loop-k.k c.ring.result.now _ _ _ c.ring.ensures.ring
    c.loop-k.invariant c.report_ring.ensures

pub returns : goal.returns
returns g c =
    rw (take_all c.loop-k.k c.args.feed.now (omega (arith, c.len-k-end.ensures.value, c.loop-k-test.false)))
    at c.loop-k.invariant
