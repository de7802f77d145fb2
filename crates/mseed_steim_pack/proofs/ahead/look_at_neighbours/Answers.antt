use Rattle.std.proofs.Common.{arith}
use Rattle.mseed_steim_pack.proofs.Lookaheads.{known_all}
use Rattle.mseed_steim_pack.proofs.Wrapped.{between_length}
use Rattle.mseed_steim_pack.proofs.ahead.look_at_neighbours.Goals as goal

pub look_ahead-requires : goal.look_ahead-requires
look_ahead-requires c = omega (arith, c.requires, between_length c.args.samples.now)

pub returns : goal.returns
returns c = search (arith, known_all)
