use Rattle.std.proofs.Common.{arith}
use Rattle.mseed_steim_pack.proofs.Packs.{fullest_not_large}
use Rattle.mseed_steim_pack.proofs.pack.next_word.Goals as goal

pub returns-then-most-ge2 : goal.returns-then-most-ge2
returns-then-most-ge2 g c = search (arith, fullest_not_large)
