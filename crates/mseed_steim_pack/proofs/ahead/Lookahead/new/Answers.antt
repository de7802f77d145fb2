use Rattle.std.proofs.Common.{arith}
use Rattle.mseed_steim_pack.proofs.Lookaheads.{known_none}
use Rattle.mseed_steim_pack.proofs.ahead.Lookahead.new.Goals as goal

pub returns : goal.returns
returns c = λ s ds. known_none s ds _ 121 (omega arith)
