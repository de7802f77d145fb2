use Rattle.slink_feed.specs.Session.{Fits}
use Rattle.slink_tests.proofs.model.assert_sends.Given as goal

abbrev pub invariant-loop-row : goal.invariant-loop-row
invariant-loop-row g l = Fits l.feed l.session.state
