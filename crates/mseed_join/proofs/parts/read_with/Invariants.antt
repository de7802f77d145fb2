use Rattle.std.proofs.Common.{◌≡◌, ◌+◌, ◌-◌, ◌^◌}
use Rattle.mseed_stream.specs.Cutting.{GivesMore}
use Rattle.mseed_join.proofs.Each.{IsUnderWay}
use Rattle.mseed_join.proofs.parts.read_with.Given as goal

abbrev pub invariant-lines : goal.invariant-lines
invariant-lines g l = record {
  along : IsUnderWay l.fn.past_faults (g.R.Source.read l.source) l.reader (g.E.Sink.written l.fn.errors)
      (g.E.Sink.written l.errors) (g.P.Report.stands l.fn.output l.report l.output);
  more : GivesMore (g.R.Source.read l.fn.source) (g.R.Source.read l.source) (g.R.Source.remaining l.fn.source)
      (g.R.Source.remaining l.source);
  beside : g.R.Source.beside l.source ≡ g.R.Source.beside l.fn.source;
}

abbrev pub decreases-lines : goal.decreases-lines
decreases-lines g l = 2 ^ 56 + 1 - l.reader.lines.lines
