use Rattle.slink_feed.specs.Reporter.{none}
use Rattle.slink_links.proofs.Ends.{next_reported}
use Rattle.slink_links.proofs.fetching.report_next_of.Goals as goal

pub returns-then-is_called : goal.returns-then-is_called
returns-then-is_called g c =
    next_reported _ c.is_unwritten.result _ c.args.reporter.now.reporting.last c.args.client.now.talk.wants _ _
    c.if-is_called.true c.is_unwritten.ensures c.report_next.ensures

pub returns-else-is_called : goal.returns-else-is_called
returns-else-is_called g c = rw c.if-is_called.false (none _)
