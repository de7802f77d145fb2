use Rattle.std.proofs.Common.{◌<◌, ℕ}
use Rattle.slink_live.specs.Awake.{HasLeft}
use Rattle.slink_live.proofs.link.Link.is_lost.Given as goal

abbrev pub invariant-loop-k : goal.invariant-loop-k
invariant-loop-k l = record {
  none : (j : ℕ) → j < l.k → ¬ (HasLeft l.feed l.self.session.state.grants j);
}
