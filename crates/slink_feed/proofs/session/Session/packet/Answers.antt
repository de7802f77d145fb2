use Rattle.std.proofs.Common.{ap, rules}
use Rattle.slink_feed.specs.Serving.{SessionState}
use Rattle.slink_feed.proofs.Stands.{open_before}
use Rattle.slink_feed.proofs.session.Session.packet.Goals as goal

pub packet-requires : goal.packet-requires
packet-requires g c =
    (search rules, (c.requires.in_range, rw (ap (λ (s : SessionState). s.state) c.self.view_is) c.requires.fits))

pub invariant_of-self : goal.invariant_of-self
invariant_of-self g c = λ awake.
    c.self.invariant (open_before c.args.feed.now _ _ c.args.k _ c.packet.ensures.sent awake)

pub returns-clause-stands : goal.returns-clause-stands
returns-clause-stands g c = invariant_of-self g c

pub returns-clause-few : goal.returns-clause-few
returns-clause-few g c = c.packet.ensures.few
