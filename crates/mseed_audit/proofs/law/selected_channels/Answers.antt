use Rattle.mseed_audit.proofs.Channelwise.{reported_alike, verdicts_alike}
use Rattle.mseed_audit.proofs.law.selected_channels.Goals as goal

pub returns-clause-verdicts : goal.returns-clause-verdicts
returns-clause-verdicts c = λ s h a b no.
    verdicts_alike s no c.one_fault.ensures.one c.one_fault.ensures.excludes c.one_input.ensures.input h a b

pub returns-clause-reported : goal.returns-clause-reported
returns-clause-reported c = λ s h a b no.
    reported_alike s no c.one_fault.ensures.one c.one_fault.ensures.excludes c.one_input.ensures.input h a b
