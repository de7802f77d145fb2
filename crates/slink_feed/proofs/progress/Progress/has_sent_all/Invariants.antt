use Rattle.std.proofs.Common.{◌≡◌, true, take}
use Rattle.std.specs.List.{list_all, zip}
use Rattle.slink_feed.specs.Session.{has_sent}
use Rattle.slink_feed.proofs.progress.Progress.has_sent_all.Given as goal

abbrev pub invariant-loop-k : goal.invariant-loop-k
invariant-loop-k g l = list_all (λ p. has_sent p.0 p.1) (take l.k (zip l.feed l.self.grants)) ≡ true
