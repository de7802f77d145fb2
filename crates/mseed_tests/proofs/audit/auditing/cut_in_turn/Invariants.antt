use Rattle.mseed_stream.specs.Cutting.{IsAlong}
use Rattle.mseed_tests.proofs.audit.auditing.cut_in_turn.Given as goal

abbrev pub invariant-loop-refusals : goal.invariant-loop-refusals
invariant-loop-refusals g l = IsAlong (g.R.Source.read l.source) l.cutter
