use Rattle.std.proofs.Common.{arith}
use Rattle.std.proofs.lemmas.List.{take_rest}
use Rattle.mseed_steim_pack.proofs.Lookaheads.{known_at}
use Rattle.mseed_steim_pack.proofs.Wrapped.{between_from, wrapped_length}
use Rattle.mseed_steim_pack.proofs.pending.SampledPending.look.Goals as goal

pub overflow_sub-self : goal.overflow_sub-self
overflow_sub-self c = omega (arith, c.requires, wrapped_length c.args.self.now.before c.args.self.now.samples.now)

pub after-rest-requires : goal.after-rest-requires
after-rest-requires c = omega (arith, c.requires, wrapped_length c.args.self.now.before c.args.self.now.samples.now)

pub returns-then-self-from-ge-AHEAD : goal.returns-then-self-from-ge-AHEAD
returns-then-self-from-ge-AHEAD c = search (arith, between_from, known_at, take_rest, wrapped_length)
