use Rattle.std.proofs.Common.{arith}
use Rattle.mseed_steim_pack.proofs.Halves.{bits_again}
use Rattle.mseed_steim_pack.proofs.layout.bits_of.Goals as goal

pub returns : goal.returns
returns c = λ small. bits_again 8 c.args.numbers (omega arith) small
