use Rattle.mseed_steim_pack.proofs.Lookaheads.{known_more}
use Rattle.mseed_steim_pack.proofs.law.lookahead_stays.Goals as goal

pub returns : goal.returns
returns c = λ s known ds more is. known_more s known ds more is
