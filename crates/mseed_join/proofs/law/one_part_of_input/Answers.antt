use Rattle.mseed_join.proofs.Parting.{one_of_input}
use Rattle.mseed_join.proofs.law.one_part_of_input.Goals as goal

pub returns : goal.returns
returns c = one_of_input c.one_input.ensures.input c.one_part.ensures
