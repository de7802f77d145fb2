use Rattle.std.proofs.Common.{[]}
use Rattle.mseed_steim.specs.declared.scheme.Scheme.TheVariants.{Two}
use Rattle.examples.proofs.steim_pack.pack_samples_after.Goals as goal

pub pack_samples_ahead-requires-clause-known : goal.pack_samples_ahead-requires-clause-known
pack_samples_ahead-requires-clause-known c = ([], c.new-known.ensures Two _)
