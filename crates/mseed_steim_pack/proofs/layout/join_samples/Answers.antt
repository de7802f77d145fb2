use Rattle.std.proofs.Common.{arith}
use Rattle.std.proofs.lemmas.Int.{to_z-of_z}
use Rattle.std.proofs.lemmas.List.{take-take}
use Rattle.mseed_steim_pack.proofs.Rows.{four_at_most}
use Rattle.mseed_steim_pack.proofs.Wrapped.{first_written}
use Rattle.mseed_steim_pack.proofs.layout.join_samples.Goals as goal

pub returns : goal.returns
returns c = search (arith, first_written, four_at_most, take-take, to_z-of_z)
