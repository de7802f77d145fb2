use Rattle.mseed_audit.specs.Channels.{numbered}
use Rattle.mseed_audit.proofs.OneVerdict.{verdicts_one}
use Rattle.mseed_audit.proofs.law.one_list_of_verdicts.Goals as goal

pub returns : goal.returns
returns c = λ added. verdicts_one c.one_fault.ensures.one c.one_fault.ensures.excludes (numbered 1 added)
