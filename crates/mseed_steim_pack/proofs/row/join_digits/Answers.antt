use Rattle.std.proofs.Common.{arith}
use Rattle.std.proofs.lemmas.Int.{to_z-of_z}
use Rattle.mseed_steim_pack.proofs.Joins.{joined_more, joined_fits}
use Rattle.mseed_steim_pack.proofs.row.join_digits.Goals as goal

pub loop-index-preserved : goal.loop-index-preserved
loop-index-preserved c = search (arith, joined_more, to_z-of_z)

pub overflow_cast-result : goal.overflow_cast-result
overflow_cast-result c = search (arith, joined_fits)
