use Rattle.slink_feed.specs.Reporter.{none}
use Rattle.slink_feed.proofs.reporter.report_hole.Goals as goal

pub returns-in-Some : goal.returns-in-Some
returns-in-Some g c = rw c.in-Some.is c.report_if_other.ensures

pub returns-in-None : goal.returns-in-None
returns-in-None g c = rw c.in-None.is (none _)
