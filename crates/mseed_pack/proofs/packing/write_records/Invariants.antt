use Rattle.std.proofs.Common.{◌≡◌, ◌-◌, ℤ, List}
use Rattle.mseed_stream.specs.Calls.{WritesOn}
use Rattle.mseed_pack.specs.private.Spans.{CanBegin, Emits, StandsAt}
use Rattle.mseed_pack.proofs.packing.write_records.Given as goal

abbrev pub invariant-loop-place : goal.invariant-loop-place
invariant-loop-place g l = record {
  standing : StandsAt l.job.head.now.steps.now l.job.head.now.count l.place;
  stands_there : (samples : List ℤ) → CanBegin g.F.Filler.stands l.job l.fn.filler l.fn.supply samples
      → g.F.Filler.stands l.filler l.supply l.job.options.now.encoding samples l.place.first;
  emitted : Emits l.job l.place (CanBegin g.F.Filler.stands l.job l.fn.filler l.fn.supply)
      (g.W.Sink.written l.fn.sink) (g.W.Sink.written l.sink);
  beside : g.F.Filler.beside l.supply ≡ g.F.Filler.beside l.fn.supply;
  writes : WritesOn (g.W.Sink.written l.fn.sink) (g.W.Sink.written l.sink) (g.W.Sink.contents l.fn.sink)
      (g.W.Sink.contents l.sink) (g.W.Sink.beside l.fn.sink) (g.W.Sink.beside l.sink);
}

abbrev pub decreases-loop-place : goal.decreases-loop-place
decreases-loop-place g l = l.job.head.now.count - l.place.first
