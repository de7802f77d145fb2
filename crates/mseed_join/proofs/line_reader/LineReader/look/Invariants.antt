use Rattle.std.proofs.Common.{◌≡◌, ◌-◌, ◌^◌}
use Rattle.mseed_join.specs.private.LineReading.{GoesOn, Grows}
use Rattle.mseed_join.proofs.line_reader.LineReader.look.Given as goal

abbrev pub invariant-loop-ahead : goal.invariant-loop-ahead
invariant-loop-ahead g l = record {
  more : Grows (g.R.Source.read l.fn.source) (g.R.Source.read l.source) (g.R.Source.remaining l.fn.source)
      (g.R.Source.remaining l.source) l.fn.self l.self;
  goes_on : GoesOn (g.R.Source.read l.source);
  beside : g.R.Source.beside l.source ≡ g.R.Source.beside l.fn.source;
}

abbrev pub decreases-loop-ahead : goal.decreases-loop-ahead
decreases-loop-ahead g l = 2 ^ 40 - l.self.reads
