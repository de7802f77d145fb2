use Rattle.std.proofs.Common.{subst}
use Rattle.mseed_audit.specs.Scope.{Scope}
use Rattle.mseed_audit.specs.Summary.{IsGatheredIn}
use Rattle.mseed_audit.proofs.Outcomes.{asked_all}
use Rattle.mseed_audit.proofs.summary.gather.Goals as goal

pub returns-in-Ok-clause-gathered : goal.returns-in-Ok-clause-gathered
returns-in-Ok-clause-gathered g c =
    let found = c.in-Ok.found.gathered in
    let o = c.in-Ok.ensures.gathered in
    let gathered = subst (λ (scope : Scope). IsGatheredIn scope found.audit found.end found.bytes
    (g.R.Source.read c.gather_with.new.source) o.0) asked_all o.1.0.all in
    (o.0, gathered)
