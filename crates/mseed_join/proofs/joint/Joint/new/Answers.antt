use Rattle.mseed_join.proofs.Rows.{nothing_read}
use Rattle.mseed_join.proofs.joint.Joint.new.Goals as goal

pub returns-clause-read : goal.returns-clause-read
returns-clause-read g c = nothing_read c.new.result c.args.past_faults c.one_part.ensures c.new.ensures.of_none
