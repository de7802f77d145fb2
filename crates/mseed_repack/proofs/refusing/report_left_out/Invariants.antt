use Rattle.std.proofs.Common.{take}
use Rattle.mseed_repack.specs.ByStretches.{AreReported}
use Rattle.mseed_repack.proofs.refusing.report_left_out.Given as goal

abbrev pub invariant-loop-number : goal.invariant-loop-number
invariant-loop-number g l =
    AreReported l.encoding (take l.number l.channels) (take l.number l.packabilities) (g.E.Sink.written l.fn.errors)
    (g.E.Sink.written l.errors)
