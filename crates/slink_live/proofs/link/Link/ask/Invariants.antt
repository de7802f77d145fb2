use Rattle.std.proofs.Common.{◌≡◌, ◌≤◌, ◌<◌, ℕ, length}
use Rattle.slink_live.proofs.Turning.{Waits}
use Rattle.slink_live.proofs.link.Link.ask.Given as goal

abbrev pub invariant-loop-k : goal.invariant-loop-k
invariant-loop-k l = record {
  same : l.self ≡ l.fn.self;
  waits : (j : ℕ) → l.ring ≤ j → j < l.k → Waits l.feed l.fn.self.session.state j;
}

abbrev pub invariant-loop-k-2 : goal.invariant-loop-k-2
invariant-loop-k-2 l = record {
  same : l.self ≡ l.fn.self;
  beyond : (j : ℕ) → l.ring ≤ j → j < length l.feed → Waits l.feed l.fn.self.session.state j;
  waits : (j : ℕ) → j < l.k → Waits l.feed l.fn.self.session.state j;
}
