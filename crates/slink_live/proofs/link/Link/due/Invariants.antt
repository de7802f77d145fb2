use Rattle.slink_live.specs.private.Granting.{AreDue}
use Rattle.slink_live.proofs.link.Link.due.Given as goal

abbrev pub invariant-loop-k : goal.invariant-loop-k
invariant-loop-k l = AreDue l.feed l.self.session.state l.due l.k
