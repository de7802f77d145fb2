use Rattle.mseed_join.proofs.Each.{unreported}
use Rattle.mseed_join.proofs.parts.read_parts.Goals as goal

pub returns-clause-outcome : goal.returns-clause-outcome
returns-clause-outcome g c =
    unreported g.row.A.Denot c.read_with.result c.args.past_faults c.args.expected
    (g.R.Source.read c.read_with.new.source) _ _ _ c.read_with.ensures.outcome
