use Rattle.std.proofs.Common.{subst}
use Rattle.mseed_record.specs.Selection.{everything}
use Rattle.mseed_audit.specs.Scope.{Scope}
use Rattle.mseed_audit.specs.Each.{HasLinesIn, IsLinesFaultIn}
use Rattle.mseed_audit.proofs.Gathers.{lined_first, lines_fault}
use Rattle.mseed_audit.proofs.Outcomes.{asked_all}
use Rattle.mseed_audit.proofs.each.gather_each.Goals as goal

pub gather_with-requires-clause-report : goal.gather_with-requires-clause-report
gather_with-requires-clause-report g c = lined_first _ _ _ _ c.requires.text

pub returns-in-Ok-clause-reported : goal.returns-in-Ok-clause-reported
returns-in-Ok-clause-reported g c =
    let found = c.in-Ok.found.gathered in
    let o = c.in-Ok.ensures.gathered in
    let r = o.1.1 in
    subst (λ (scope : Scope). HasLinesIn scope found.audit found.end found.bytes
    (g.R.Source.read c.gather_with.new.source) (g.W.Sink.written c.args.sink.now)
    (g.W.Sink.written c.gather_with.new.output) c.gather_with.new.report.items) asked_all (record {
      views = o.0;
      reported = r.reported;
      all = o.1.0.all;
      are_reported = r.are_reported;
      lines = r.stands.lines;
      fine = r.stands.fine;
    })

pub returns-in-Ok-clause-writes : goal.returns-in-Ok-clause-writes
returns-in-Ok-clause-writes g c = c.in-Ok.ensures.gathered.1.1.stands.writes

pub returns-in-Err-clause-reported : goal.returns-in-Err-clause-reported
returns-in-Err-clause-reported g c =
    subst (λ (scope : Scope). IsLinesFaultIn scope c.in-Err.fault (g.R.Source.read c.gather_with.new.source)
    (g.W.Sink.written c.args.sink.now) (g.W.Sink.written c.gather_with.new.output)) asked_all
    (lines_fault g.row.A.Denot everything c.in-Err.fault _ _ _ _ _ _ _ c.gather_with.new.report.items
    c.in-Err.ensures.gathered).0

pub returns-in-Err-clause-writes : goal.returns-in-Err-clause-writes
returns-in-Err-clause-writes g c =
    (lines_fault g.row.A.Denot everything c.in-Err.fault _ _ _ _ _ _ _ c.gather_with.new.report.items
    c.in-Err.ensures.gathered).1
