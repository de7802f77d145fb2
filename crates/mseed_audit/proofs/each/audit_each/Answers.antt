use Rattle.std.proofs.Common.{Ok, Err, subst}
use Rattle.mseed_audit.specs.Scope.{Scope}
use Rattle.mseed_audit.specs.Each.{IsEachOutcomeIn}
use Rattle.mseed_audit.proofs.Outcomes.{asked_all}
use Rattle.mseed_audit.proofs.each.audit_each.Goals as goal

pub returns-in-Ok-clause-outcome : goal.returns-in-Ok-clause-outcome
returns-in-Ok-clause-outcome g c =
    let o = c.in-Ok.ensures.outcome in
    subst (λ (scope : Scope). IsEachOutcomeIn scope (Ok c.in-Ok.found.summary)
    (g.R.Source.read c.audit_each_selected.new.source)
    (g.W.Sink.written c.args.sink.now) (g.W.Sink.written c.audit_each_selected.new.sink)) asked_all (o.0, o.1.0)

pub returns-in-Err-clause-outcome : goal.returns-in-Err-clause-outcome
returns-in-Err-clause-outcome g c =
    subst (λ (scope : Scope). IsEachOutcomeIn scope (Err c.in-Err.fault)
    (g.R.Source.read c.audit_each_selected.new.source)
    (g.W.Sink.written c.args.sink.now) (g.W.Sink.written c.audit_each_selected.new.sink)) asked_all
    c.in-Err.ensures.outcome
