use Rattle.std.proofs.Common.{◌∙◌, ap}
use Rattle.slink_feed.specs.Dialogue.{want_at}
use Rattle.slink_feed.specs.Reporter.{ReporterState}
use Rattle.slink_feed.proofs.ReportLines.{lines_reported}
use Rattle.slink_feed.proofs.reporter.Reporter.note.Goals as goal

pub returns-clause-lines : goal.returns-clause-lines
returns-clause-lines g c =
    lines_reported c.args.self.now.reporting c.args.k c.args.number _ _ _ _ _
    (c.want_at-want.ensures.value ∙ ap (λ (s : ReporterState). want_at s.reporting.wants c.args.k) c.self.view_is)
    c.is_first.ensures c.report_hole.ensures c.report_first.ensures
