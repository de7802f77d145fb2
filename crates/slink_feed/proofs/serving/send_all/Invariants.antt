use Rattle.std.proofs.Common.{◌≡◌, ◌≤◌, ◌+◌, ◌-◌, ◌*◌}
use Rattle.slink_feed.specs.Attending.{attending}
use Rattle.slink_feed.specs.Running.{Stands}
use Rattle.slink_feed.specs.Session.{Fits}
use Rattle.slink_feed.proofs.Dues.{due}
use Rattle.slink_feed.proofs.Sendoffs.{SentSoFar}
use Rattle.slink_feed.proofs.serving.send_all.Given as goal

abbrev pub invariant-loop-waits : goal.invariant-loop-waits
invariant-loop-waits g l = record {
  so_far : SentSoFar l.feed (attending l.fn.session (g.L.Sink.written l.fn.link))
      (attending l.session (g.L.Sink.written l.link)) l.k l.waits l.written;
  few : l.written ≤ 2199023255552;
  fits : Fits l.feed l.session.state;
  stands : Stands l.session;
  beside : g.L.Sink.beside l.link ≡ g.L.Sink.beside l.fn.link;
}

abbrev pub decreases-loop-waits : goal.decreases-loop-waits
decreases-loop-waits g l = 17 * due l.feed l.session.state + (16 - l.waits)
