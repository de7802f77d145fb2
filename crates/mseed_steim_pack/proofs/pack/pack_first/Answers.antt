use Rattle.std.proofs.Common.{arith}
use Rattle.std.proofs.lemmas.Int.{to_z-of_z}
use Rattle.mseed_steim_pack.proofs.Wrapped.{first_written}
use Rattle.mseed_steim_pack.proofs.pack.pack_first.Goals as goal

pub returns-clause-fullest : goal.returns-clause-fullest
returns-clause-fullest c = search (arith, first_written, to_z-of_z)
