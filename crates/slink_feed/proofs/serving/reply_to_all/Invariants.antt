use Rattle.std.proofs.Common.{◌≡◌, ◌-◌, length}
use Rattle.slink_feed.specs.Attending.{attending}
use Rattle.slink_feed.specs.Running.{Stands}
use Rattle.slink_feed.specs.Session.{Fits}
use Rattle.slink_feed.proofs.Sendoffs.{RepliedSoFar}
use Rattle.slink_feed.proofs.serving.reply_to_all.Given as goal

abbrev pub invariant-loop-start : goal.invariant-loop-start
invariant-loop-start g l = record {
  so_far : RepliedSoFar l.feed (attending l.fn.session (g.L.Sink.written l.fn.link))
      (attending l.session (g.L.Sink.written l.link)) l.bytes l.start l.before l.written;
  fits : Fits l.feed l.session.state;
  stands : Stands l.session;
  beside : g.L.Sink.beside l.link ≡ g.L.Sink.beside l.fn.link;
}

abbrev pub decreases-loop-start : goal.decreases-loop-start
decreases-loop-start g l = length l.bytes - l.start
