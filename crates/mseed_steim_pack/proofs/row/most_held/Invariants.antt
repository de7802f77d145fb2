use Rattle.mseed_steim_pack.specs.private.Rows.{row_for, IsBestRow}
use Rattle.mseed_steim_pack.proofs.Fullest.{Sized}
use Rattle.mseed_steim_pack.proofs.row.most_held.Given as goal

abbrev pub invariant-loop-index : goal.invariant-loop-index
invariant-loop-index l = record {
  known : Sized l.diffs l.index l.size;
  best : IsBestRow l.scheme l.diffs l.index (row_for l.scheme l.count);
}
