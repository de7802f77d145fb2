use Rattle.std.proofs.Common.{[], ◌∷◌}
use Rattle.slink_feed.specs.Reporter.{none, one}
use Rattle.slink_links.proofs.ending.report_both.Goals as goal

pub returns-in-Some : goal.returns-in-Some
returns-in-Some g c =
    rw c.in-Some.is (one c.args.line.now (c.in-Some.more ∷ []) _ _ _ c.report.ensures
    (one c.in-Some.more [] _ _ _ (rw c.as_slice.ensures at c.report-in-Some.ensures) (none _)))

pub returns-in_default : goal.returns-in_default
returns-in_default g c = rw c.in_default.is (one c.args.line.now [] _ _ _ c.report.ensures (none _))
