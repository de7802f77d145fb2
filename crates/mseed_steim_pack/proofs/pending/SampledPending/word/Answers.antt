use Rattle.std.proofs.Common.{arith}
use Rattle.mseed_steim_pack.proofs.Wrapped.{wrapped_length}
use Rattle.mseed_steim_pack.proofs.pending.SampledPending.word.Goals as goal

pub after-rest-requires : goal.after-rest-requires
after-rest-requires c = omega (arith, c.requires, wrapped_length c.args.self.now.before c.args.self.now.samples.now)
