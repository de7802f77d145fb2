use Rattle.std.proofs.Common.{◌-◌, ◌≡◌, length}
use Rattle.slink_feed.specs.Fetching.{fetching}
use Rattle.slink_feed.specs.Reports.{ReportsRecords}
use Rattle.slink_feed.proofs.Deliveries.{SoFar}
use Rattle.slink_feed.proofs.fetching.read.Given as goal

abbrev pub invariant-loop-offset : goal.invariant-loop-offset
invariant-loop-offset g l = record {
  so_far : SoFar (fetching l.fn.client (g.L.Sink.written l.fn.link) (g.W.Sink.written l.fn.output))
      (fetching l.client (g.L.Sink.written l.link) (g.W.Sink.written l.output)) l.bytes l.offset l.counts.written
      l.counts.output;
  noted : ReportsRecords l.fn.client.talk l.client.talk l.fn.reporter l.reporter (g.W.Sink.written l.fn.output)
      (g.W.Sink.written l.output) (g.E.Sink.written l.fn.errors) (g.E.Sink.written l.errors);
  beside : g.L.Sink.beside l.link ≡ g.L.Sink.beside l.fn.link;
}

abbrev pub decreases-loop-offset : goal.decreases-loop-offset
decreases-loop-offset g l = length l.bytes - l.offset
