use Rattle.mseed_stream.specs.Cutting.{IsAlong}
use Rattle.mseed_bench.proofs.samples.read_records.Given as goal

-- The cutter alone has called the source.
abbrev pub invariant-loop-record : goal.invariant-loop-record
invariant-loop-record g l = IsAlong (g.R.Source.read l.source) l.cutter
