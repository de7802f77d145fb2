use Rattle.std.proofs.Common.{sym}
use Rattle.mseed_steim_pack.proofs.Wrapped.{wrapped_length}
use Rattle.mseed_steim_pack.proofs.pending.SampledPending.count.Goals as goal

pub returns-clause-value : goal.returns-clause-value
returns-clause-value c = sym (wrapped_length c.args.self.now.before c.args.self.now.samples.now)
