use Rattle.std.proofs.Common.{arith}
use Rattle.std.proofs.lemmas.List.{length-take-le}
use Rattle.mseed_steim_pack.proofs.Joins.{dnib_joined}
use Rattle.mseed_steim_pack.proofs.row.word_of.Goals as goal

pub returns : goal.returns
returns c = search (arith, dnib_joined, length-take-le)
