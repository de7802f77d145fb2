use Rattle.std.proofs.Common.{◌∙◌, ap, append-nil, refl}
use Rattle.slink_feed.specs.Reporter.{ReporterState}
use Rattle.slink_feed.proofs.fetching.deliver_record.Goals as goal

pub returns-in-Err-clause-reported : goal.returns-in-Err-clause-reported
returns-in-Err-clause-reported g c = record {
  reporting = ap (λ (s : ReporterState). s.reporting) c.note.ensures.reporting;
  lines = rw append-nil c.note.ensures.lines;
}

pub returns-in-Ok-clause-reported : goal.returns-in-Ok-clause-reported
returns-in-Ok-clause-reported g c = record {
  reporting = ap (λ (s : ReporterState). s.reporting) c.receive.ensures
      ∙ ap (λ (s : ReporterState). s.reporting) c.note.ensures.reporting;
  lines = rw append-nil c.note.ensures.lines;
}

pub returns-in-Err-clause-fault : goal.returns-in-Err-clause-fault
returns-in-Err-clause-fault g c link = record {
  more = c.in-Err.count;
  count_is = refl;
  failing = record { bytes = c.in-Err.ensures.err; part = c.in-Err.ensures.within; failures = c.in-Err.ensures.failed };
  other = refl;
}
