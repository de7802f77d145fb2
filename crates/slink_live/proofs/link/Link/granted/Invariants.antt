use Rattle.std.proofs.Common.{◌≡◌, ◌<◌, ℕ, Some}
use Rattle.slink_feed.specs.declared.grant.Grant.{Grant}
use Rattle.slink_feed.specs.Session.{grant_at}
use Rattle.slink_live.specs.private.Granting.{Has}
use Rattle.slink_live.proofs.link.Link.granted.Given as goal

abbrev pub invariant-loop-k : goal.invariant-loop-k
invariant-loop-k l = record {
  each : (j : ℕ) (g : Grant) → j < l.k → grant_at l.self.session.state.grants j ≡ Some g → Has l.places j;
}
