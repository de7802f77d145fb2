use Rattle.mseed_steim_pack.proofs.Joins.{Placed}
use Rattle.mseed_steim_pack.proofs.layout.join_one.Given as goal

abbrev pub invariant-loop-index : goal.invariant-loop-index
invariant-loop-index l = Placed l.fn.layout.row.width l.fn.layout.row.count l.diffs l.index l.word
