use Rattle.std.proofs.Common.{◌+◌, ◌-◌, ◌^◌, length, if◌then◌else◌}
use Rattle.mseed_stream.specs.Calls.{ReadsOn}
use Rattle.mseed_stream.specs.private.Steps.{IsCutting}
use Rattle.mseed_stream.proofs.cutter.Cutter.cut.Given as goal

abbrev pub invariant-stops : goal.invariant-stops
invariant-stops g l = record {
  cutting : IsCutting l.fn.self l.self l.is_at_end (g.R.Source.read l.fn.source) (g.R.Source.read l.source);
  reads : ReadsOn (g.R.Source.read l.fn.source) (g.R.Source.read l.source) (g.R.Source.remaining l.fn.source)
      (g.R.Source.remaining l.source) (g.R.Source.beside l.fn.source) (g.R.Source.beside l.source);
}

abbrev pub decreases-stops : goal.decreases-stops
decreases-stops g l = if l.is_at_end then 0 else 2 ^ 20 + 1 - length l.self.prefix
