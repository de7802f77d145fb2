use Rattle.mseed_steim_pack.proofs.Written.{word_cleared}
use Rattle.std.proofs.Common.{arith}
use Rattle.mseed_steim_pack.proofs.pack.clear_from.Goals as goal

pub returns : goal.returns
returns c = search (arith, word_cleared)
