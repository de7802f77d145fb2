use Rattle.std.proofs.Common.{◌≡◌, ◌≤◌, ◌-◌, length}
use Rattle.mseed_stream.proofs.noting.note_records.Given as goal

abbrev pub invariant-loop-offset : goal.invariant-loop-offset
invariant-loop-offset g l = record {
  read : g.R.Source.read l.source ≡ g.R.Source.read l.fn.source;
  remaining : g.R.Source.remaining l.source ≡ g.R.Source.remaining l.fn.source;
  beside : g.R.Source.beside l.source ≡ g.R.Source.beside l.fn.source;
  within : l.offset ≤ length l.bytes;
}

abbrev pub decreases-loop-offset : goal.decreases-loop-offset
decreases-loop-offset g l = length l.bytes - l.offset
