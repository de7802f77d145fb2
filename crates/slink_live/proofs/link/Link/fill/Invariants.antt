use Rattle.std.proofs.Common.{◌*◌, ◌≤◌, length}
use Rattle.slink_feed.specs.Session.{Fits}
use Rattle.slink_live.specs.History.{Asks}
use Rattle.slink_live.specs.private.Granting.{AreDue}
use Rattle.slink_live.proofs.link.Link.fill.Given as goal

abbrev pub invariant-loop-ask : goal.invariant-loop-ask
invariant-loop-ask l = record {
  asks : Asks l.feed l.fn.self.session l.fn.self.ring l.fn.self.pending l.self.session l.self.ring l.self.pending;
  fits : Fits l.feed l.self.session.state;
  grown : 520 * l.ask ≤ length l.self.pending;
  due : AreDue l.feed l.self.session.state l.due (length l.feed);
}
