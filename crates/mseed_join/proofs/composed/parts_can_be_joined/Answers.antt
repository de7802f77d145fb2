use Rattle.mseed_join.proofs.Fitting.{can_join}
use Rattle.mseed_join.proofs.composed.parts_can_be_joined.Goals as goal

pub returns : goal.returns
returns c = can_join c.parts_add_up.ensures
