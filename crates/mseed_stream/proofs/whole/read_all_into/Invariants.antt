use Rattle.std.proofs.Common.{◌≡◌, ◌+◌, ◌++◌, ◌<◌, false}
use Rattle.std.specs.Io.KnownBytes.{Consumes}
use Rattle.mseed_stream.proofs.whole.read_all_into.Given as goal

abbrev pub invariant-loop-reads : goal.invariant-loop-reads
invariant-loop-reads g l = record {
  bytes : (g.R.Source.read l.source).bytes ≡ (g.R.Source.read l.fn.source).bytes ++ l.bytes.items;
  calls : (g.R.Source.read l.source).calls ≡ (g.R.Source.read l.fn.source).calls + l.reads;
  failures : (g.R.Source.read l.source).failures ≡ (g.R.Source.read l.fn.source).failures;
  known : Consumes (g.R.Source.remaining l.fn.source) (g.R.Source.remaining l.source) l.bytes.items;
  going_on : 0 < l.reads → (g.R.Source.read l.source).is_at_end ≡ false;
  beside : g.R.Source.beside l.source ≡ g.R.Source.beside l.fn.source;
}
