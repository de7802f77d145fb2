use Rattle.std.proofs.Common.{ℕ, ◌-◌, ◌≤◌, List, drop, length}
use Rattle.slink_feed.specs.Serving.{Serves, SessionState}
use Rattle.slink_feed.specs.Session.{Fits}
use Rattle.slink_model.proofs.carry.serve_bytes.Given as goal

-- what the rest leads to, all lead to
abbrev pub invariant-loop-start : goal.invariant-loop-start
invariant-loop-start l = record {
  within : l.start ≤ length l.bytes;
  fits : Fits l.feed l.session.state;
  rest : (last : SessionState) (all : List ℕ)
      → Serves l.feed l.session (drop l.start l.bytes) l.to_client.items last all
      → Serves l.feed l.fn.session l.bytes l.fn.to_client.items last all;
}

abbrev pub decreases-loop-start : goal.decreases-loop-start
decreases-loop-start l = length l.bytes - l.start
