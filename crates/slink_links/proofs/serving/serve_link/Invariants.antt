use Rattle.slink_feed.specs.Attending.{attending}
use Rattle.slink_feed.specs.Serving.{IsNew}
use Rattle.slink_feed.specs.Session.{Fits}
use Rattle.slink_links.specs.Served.{HasTakenTurns}
use Rattle.slink_links.proofs.serving.serve_link.Given as goal

abbrev pub invariant-loop-turn : goal.invariant-loop-turn
invariant-loop-turn g l = record {
  fits : Fits l.feed l.session.state;
  fresh : IsNew l.initial.session;
  taken : HasTakenTurns l.feed (attending l.initial.session (g.S.Sink.written l.fn.link)) (g.S.Source.read l.fn.link)
      l.turn (attending l.session (g.S.Sink.written l.link)) (g.S.Source.read l.link);
}
