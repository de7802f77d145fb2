use Rattle.std.proofs.Common.{◌≡◌, ◌+◌, ◌<◌, true, false}
use Rattle.slink_links.specs.Out.{AreOut}
use Rattle.slink_links.specs.Served.{HasServedEach}
use Rattle.slink_links.proofs.serving.serve_connections.Given as goal

abbrev pub invariant-loop-connection : goal.invariant-loop-connection
invariant-loop-connection g l = record {
  accepts : g.A.Accept.calls l.acceptor ≡ g.A.Accept.calls l.fn.acceptor + l.connection;
  fine : l.is_fine ≡ true → (g.A.Accept.failures l.acceptor ≡ g.A.Accept.failures l.fn.acceptor)
      × (g.A.Accept.lost l.acceptor ≡ g.A.Accept.lost l.fn.acceptor);
  failed : l.is_fine ≡ false → g.A.Accept.failures l.fn.acceptor + g.A.Accept.lost l.fn.acceptor
      < g.A.Accept.failures l.acceptor + g.A.Accept.lost l.acceptor;
  out : AreOut 0 (g.A.Accept.calls l.acceptor) (g.A.Accept.failures l.acceptor) (g.A.Accept.given_back l.acceptor);
  served : HasServedEach l.feed (g.A.Accept.given_back l.fn.acceptor) (g.A.Accept.given_back l.acceptor);
}
