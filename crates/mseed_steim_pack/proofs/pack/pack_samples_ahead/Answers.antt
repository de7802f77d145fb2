use Rattle.std.proofs.Common.{arith}
use Rattle.std.proofs.lemmas.Int.{to_z-of_z}
use Rattle.mseed_steim_pack.proofs.Wrapped.{wrapped_whole}
use Rattle.mseed_steim_pack.proofs.pack.pack_samples_ahead.Goals as goal

pub pack_ahead-requires-clause-known : goal.pack_ahead-requires-clause-known
pack_ahead-requires-clause-known c = search (arith, to_z-of_z, wrapped_whole)

pub returns-clause-packed : goal.returns-clause-packed
returns-clause-packed c = search (arith, to_z-of_z, wrapped_whole)

pub returns-clause-known : goal.returns-clause-known
returns-clause-known c = search (arith, to_z-of_z, wrapped_whole)
