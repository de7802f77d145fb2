use Rattle.std.proofs.Common.{take}
use Rattle.slink_feed.specs.Reporter.{AreReported}
use Rattle.mseed_feed.specs.Plans.{keeps_lines}
use Rattle.mseed_feed.proofs.keeping.report_kept.Given as goal

-- the lines of the rings before
abbrev pub invariant-loop-k : goal.invariant-loop-k
invariant-loop-k g l =
    AreReported (keeps_lines l.serving (take l.k l.feed)) (g.E.Sink.written l.fn.errors) (g.E.Sink.written l.errors)
