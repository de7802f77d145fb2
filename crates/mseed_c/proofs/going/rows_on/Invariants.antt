use Rattle.std.proofs.Common.{◌≡◌}
use Rattle.mseed_c.specs.private.Going.{GoesOn}
use Rattle.mseed_c.proofs.going.rows_on.Given as goal

abbrev pub invariant-loop-index : goal.invariant-loop-index
invariant-loop-index g l = record {
  goes : GoesOn g.P.Places.is_row g.P.Places.room l.bytes l.fn.rows l.rows l.fn.out l.out l.fn.progress l.progress;
  rows : l.progress.rows ≡ l.index;
}
