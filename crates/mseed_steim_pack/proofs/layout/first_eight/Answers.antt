use Rattle.std.proofs.Common.{arith}
use Rattle.std.proofs.lemmas.Int.{to_z-of_z}
use Rattle.mseed_steim.proofs.Below.{eight}
use Rattle.mseed_steim_pack.proofs.Halves.{eight_of, small_of}
use Rattle.mseed_steim_pack.proofs.layout.first_eight.Goals as goal

pub returns : goal.returns
returns c = search (arith, eight, eight_of, small_of, to_z-of_z)
