use Rattle.mseed_join.proofs.OneFlaw.{flaw_one}
use Rattle.mseed_join.proofs.law.one_flaw.Goals as goal

pub returns : goal.returns
returns c = flaw_one
