use Rattle.mseed_repack.proofs.Archives.{AreWrittenTo}
use Rattle.mseed_repack.proofs.packing.pack_channels.Given as goal

abbrev pub invariant-loop-number : goal.invariant-loop-number
invariant-loop-number g l =
    AreWrittenTo l.fn._cutting l.options l.archive l.packabilities l.number (g.W.Sink.written l.fn.output)
    (g.W.Sink.written l.output)
