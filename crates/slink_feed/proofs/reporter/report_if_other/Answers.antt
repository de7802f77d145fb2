use Rattle.std.proofs.Common.{◌∙◌, sym}
use Rattle.std.proofs.lemmas.Bool.{eq-eqb, ne_eqb}
use Rattle.slink_feed.specs.Reporter.{none}
use Rattle.slink_feed.proofs.ReportLines.{reported_line}
use Rattle.slink_feed.proofs.reporter.report_if_other.Goals as goal

pub returns-then-want-got : goal.returns-then-want-got
returns-then-want-got g c =
    rw (c.in-Some.is, ne_eqb c.args.got c.in-Some.want (λ e. c.if-want-got.true (sym e)))
    (reported_line _ _ _ _ (c.as_slice.ensures.value ∙ c.hole_line.ensures) c.report.ensures)

pub returns-else-want-got : goal.returns-else-want-got
returns-else-want-got g c = rw (c.in-Some.is, eq-eqb c.args.got c.in-Some.want (sym c.if-want-got.false)) (none _)

pub returns-in-None : goal.returns-in-None
returns-in-None g c = rw c.in-None.is (none _)
