use Rattle.std.proofs.Common.{◌≡◌, ◌+◌, ◌<◌, ◌≤◌}
use Rattle.slink_links.specs.declared.fetching.FetchEnd.TheVariants.{LinkFailed}
use Rattle.slink_feed.specs.Reports.{outputs}
use Rattle.slink_links.specs.Fetched.{FetchesReporting, calls_of}
use Rattle.slink_links.specs.Out.{AreOut}
use Rattle.slink_links.proofs.Tries.{AreTried}
use Rattle.slink_links.proofs.fetching.fetch_links.Given as goal

abbrev pub invariant-links : goal.invariant-links
invariant-links g l = record {
  fetched : FetchesReporting LinkFailed l.fn.client l.client
      (outputs (g.W.Sink.written l.fn.output) (g.E.Sink.written l.fn.errors) l.fn.reporter.reporting)
      (outputs (g.W.Sink.written l.output) (g.E.Sink.written l.errors) l.reporter.reporting);
  some : 0 < l.left;
  most : l.left ≤ l.tries;
  dialled : g.D.Dial.calls l.dialler + l.left ≡ g.D.Dial.calls l.fn.dialler + l.tries;
  out : AreOut 0 (g.D.Dial.calls l.dialler) (g.D.Dial.failures l.dialler) (g.D.Dial.given_back l.dialler);
  tried : AreTried l.fn.client l.client (g.W.Sink.written l.fn.output) (g.W.Sink.written l.output)
      (calls_of (g.D.Dial.calls l.fn.dialler) (g.D.Dial.given_back l.fn.dialler) (g.P.Pause.called l.fn.waits))
      (calls_of (g.D.Dial.calls l.dialler) (g.D.Dial.given_back l.dialler) (g.P.Pause.called l.waits)) l.count;
}

abbrev pub decreases-links : goal.decreases-links
decreases-links g l = l.left
