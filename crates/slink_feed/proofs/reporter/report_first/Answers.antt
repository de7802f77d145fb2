use Rattle.std.proofs.Common.{◌∙◌, Bool, None, ℕ, true, false}
use Rattle.mseed_stream.specs.Device.{BytesWritten}
use Rattle.slink_feed.specs.Reporter.{AreReported, first_lines, none}
use Rattle.slink_feed.proofs.ReportLines.{reported_line}
use Rattle.slink_feed.proofs.reporter.report_first.Goals as goal

pub returns-then-is_first : goal.returns-then-is_first
returns-then-is_first g c =
    rw (c.if-is_first.true, c.in-Some.is)
    (reported_line _ _ _ _ (c.as_slice.ensures.value ∙ c.first_line.ensures) c.report.ensures)

pub returns-else-is_first : goal.returns-else-is_first
returns-else-is_first g c = rw c.if-is_first.false (none _)

no_station : (first : Bool) (number : ℕ) (now : BytesWritten) → AreReported (first_lines first None number) now now
no_station true number now = none now
no_station false number now = none now

pub returns-in-None : goal.returns-in-None
returns-in-None g c = rw c.in-None.is (no_station c.args.is_first c.args.number _)
