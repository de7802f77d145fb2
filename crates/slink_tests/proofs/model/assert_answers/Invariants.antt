use Rattle.slink_feed.specs.Session.{Fits}
use Rattle.slink_tests.proofs.model.assert_answers.Given as goal

abbrev pub invariant-loop-line : goal.invariant-loop-line
invariant-loop-line g l = Fits l.feed l.session.state
