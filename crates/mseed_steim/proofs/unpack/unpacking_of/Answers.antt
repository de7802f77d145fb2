use Rattle.mseed_steim.proofs.Lifts.{rows_one, rows_two}
use Rattle.mseed_steim.proofs.unpack.unpacking_of.Goals as goal

pub returns-in-One-clause-row : goal.returns-in-One-clause-row
returns-in-One-clause-row c = rw c.in-One.is (rows_one _ c.args.row c.requires)

pub returns-in-Two-clause-row : goal.returns-in-Two-clause-row
returns-in-Two-clause-row c = rw c.in-Two.is (rows_two _ c.args.row c.requires)
