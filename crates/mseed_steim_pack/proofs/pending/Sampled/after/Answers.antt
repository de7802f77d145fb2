use Rattle.std.proofs.Common.{arith}
use Rattle.std.proofs.lemmas.Int.{to_z-of_z}
use Rattle.std.proofs.lemmas.List.{take_rest}
use Rattle.mseed_steim_pack.proofs.Wrapped.{wrapped_drop}
use Rattle.mseed_steim_pack.proofs.pending.Sampled.after.Goals as goal

pub returns : goal.returns
returns c = search (arith, take_rest, to_z-of_z, wrapped_drop)
