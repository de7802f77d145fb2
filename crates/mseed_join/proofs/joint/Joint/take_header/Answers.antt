use Rattle.mseed_join.proofs.Steps.{header_step}
use Rattle.mseed_join.proofs.joint.Joint.take_header.Goals as goal

pub returns-clause-step : goal.returns-clause-step
returns-clause-step g c = header_step c.args.self.now
