use Rattle.std.proofs.Common.{arith}
use Rattle.mseed_steim_pack.proofs.ahead.padded.Goals as goal

pub returns : goal.returns
returns c = search (arith)
