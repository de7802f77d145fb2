use Rattle.mseed_feed.proofs.OneFilling.{only_filling}
use Rattle.mseed_feed.proofs.law.one_filling.Goals as goal

pub returns : goal.returns
returns c = only_filling
