use Rattle.mseed_audit.specs.Scope.{whole}
use Rattle.mseed_audit.proofs.OneAudit.{text_one, summary_one}
use Rattle.mseed_audit.proofs.law.one_audit.Goals as goal

pub returns-clause-text : goal.returns-clause-text
returns-clause-text c =
    text_one c.one_fault.ensures.one c.one_fault.ensures.excludes c.one_input.ensures.input whole

pub returns-clause-summary : goal.returns-clause-summary
returns-clause-summary c =
    summary_one c.one_fault.ensures.one c.one_fault.ensures.excludes c.one_input.ensures.input whole
