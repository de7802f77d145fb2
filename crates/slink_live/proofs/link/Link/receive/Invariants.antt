use Rattle.std.proofs.Common.{◌≡◌, ◌+◌, ◌-◌, ◌*◌, ◌≤◌, length}
use Rattle.slink_feed.specs.Session.{Fits}
use Rattle.slink_live.proofs.Receiving.{Leads}
use Rattle.slink_live.proofs.link.Link.receive.Given as goal

abbrev pub invariant-loop-start : goal.invariant-loop-start
invariant-loop-start l = record {
  within : l.start ≤ length l.bytes;
  leads : Leads l.feed l.fn.self.session l.bytes l.fn.self.pending l.start l.self.session l.self.pending;
  ring : l.self.ring ≡ l.fn.self.ring;
  fits : Fits l.feed l.self.session.state;
  room : length l.self.pending + 35 * length l.bytes ≤ 6240 + 35 * l.start;
}

abbrev pub decreases-loop-start : goal.decreases-loop-start
decreases-loop-start l = length l.bytes - l.start
