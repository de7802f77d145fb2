use Rattle.std.proofs.Common.{ap}
use Rattle.slink_feed.specs.Reporter.{ReporterState}
use Rattle.slink_links.proofs.Ends.{all_fetched, end_alone}
use Rattle.slink_links.proofs.fetching.fetch_all.Goals as goal

pub returns-clause-end : goal.returns-clause-end
returns-clause-end g c = (
  c.fetch_links-end.result.0,
  c.fetch_links-end.result.1,
  all_fetched _ _ _ _ _ _ _ _ _ _ _ _ _ _ _ c.fetch_links-end.ensures.fetched
      (ap (λ (a : ReporterState). a.reporting) c.new-reporter.ensures) c.fetch_status.ensures c.report_end.ensures
      c.report_next_of.ensures,
  record {
    dialled = c.fetch_links-end.ensures.dialled;
    read = c.fetch_links-end.ensures.read;
    paused = c.fetch_links-end.ensures.paused;
  },
  c.fetch_links-end.ensures.trouble,
)

pub returns-clause-quiet : goal.returns-clause-quiet
returns-clause-quiet g c = end_alone _ _ _ _ _ _ _ _ _ _ _ (returns-clause-end g c).2
