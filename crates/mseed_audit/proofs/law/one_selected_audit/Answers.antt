use Rattle.mseed_audit.proofs.OneAudit.{each_outcome_one, outcome_one, text_one}
use Rattle.mseed_audit.proofs.law.one_selected_audit.Goals as goal

pub returns-clause-text : goal.returns-clause-text
returns-clause-text c = text_one c.one_fault.ensures.one c.one_fault.ensures.excludes c.one_input.ensures.input

pub returns-clause-outcome : goal.returns-clause-outcome
returns-clause-outcome c =
    outcome_one c.one_fault.ensures.one c.one_fault.ensures.excludes c.one_input.ensures.input

pub returns-clause-each : goal.returns-clause-each
returns-clause-each c =
    each_outcome_one c.one_fault.ensures.one c.one_fault.ensures.excludes c.one_input.ensures.input
