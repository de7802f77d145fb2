use Rattle.std.proofs.Common.{length, take, ◌-◌, ◌≡◌, ◌++◌, ◌≤◌}
use Rattle.std.specs.Io.KnownBytes.{Appends}
use Rattle.mseed_stream.proofs.whole.write_all_of.Given as goal

abbrev pub invariant-loop-at : goal.invariant-loop-at
invariant-loop-at g l = record {
  bytes : (g.W.Sink.written l.sink).bytes ≡ (g.W.Sink.written l.fn.sink).bytes ++ take l.at l.bytes;
  failures : (g.W.Sink.written l.sink).failures ≡ (g.W.Sink.written l.fn.sink).failures;
  known : Appends (g.W.Sink.contents l.fn.sink) (g.W.Sink.contents l.sink) (take l.at l.bytes);
  beside : g.W.Sink.beside l.sink ≡ g.W.Sink.beside l.fn.sink;
  within : l.at ≤ length l.bytes;
}

abbrev pub decreases-loop-at : goal.decreases-loop-at
decreases-loop-at g l = length l.bytes - l.at
