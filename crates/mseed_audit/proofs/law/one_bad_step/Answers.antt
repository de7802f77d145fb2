use Rattle.mseed_audit.proofs.OneSeries.{bad_one}
use Rattle.mseed_audit.proofs.law.one_bad_step.Goals as goal

pub returns : goal.returns
returns c = bad_one
