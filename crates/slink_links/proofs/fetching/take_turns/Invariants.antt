use Rattle.std.proofs.Common.{None}
use Rattle.slink_feed.specs.Fetching.{fetching}
use Rattle.slink_feed.specs.Reports.{ReportsRecords}
use Rattle.slink_links.specs.Fetched.{HasTakenTurns, HasTurned}
use Rattle.slink_links.proofs.fetching.take_turns.Given as goal

abbrev pub invariant-loop-turn : goal.invariant-loop-turn
invariant-loop-turn g l = record {
  noted : ReportsRecords l.fn.client.talk l.client.talk l.fn.reporter l.reporter (g.W.Sink.written l.fn.output)
      (g.W.Sink.written l.output) (g.E.Sink.written l.fn.errors) (g.E.Sink.written l.errors);
  turned : HasTurned None l.fn.client l.client (g.S.Source.read l.fn.link) (g.S.Source.read l.link)
      (g.W.Sink.written l.fn.output) (g.W.Sink.written l.output);
  taken : HasTakenTurns (fetching l.fn.client (g.S.Sink.written l.fn.link) (g.W.Sink.written l.fn.output))
      (g.S.Source.read l.fn.link) l.turn
      (fetching l.client (g.S.Sink.written l.link) (g.W.Sink.written l.output)) (g.S.Source.read l.link);
}
