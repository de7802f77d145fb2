use Rattle.std.proofs.Common.{ap}
use Rattle.slink_feed.specs.Serving.{SessionState}
use Rattle.slink_feed.proofs.session.Session.is_due.Goals as goal

pub returns-clause-yes : goal.returns-clause-yes
returns-clause-yes g c =
    rw (ap (λ (s : SessionState). s.state) c.self.view_is) at c.is_due.ensures.yes

pub returns-clause-no : goal.returns-clause-no
returns-clause-no g c =
    rw (ap (λ (s : SessionState). s.state) c.self.view_is) at c.is_due.ensures.no
