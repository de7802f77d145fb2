use Rattle.std.proofs.Common.{ap, rules}
use Rattle.slink_wire.specs.Packet.{packet_bytes}
use Rattle.slink_feed.specs.Serving.{SessionState}
use Rattle.slink_feed.specs.Session.{sent_without}
use Rattle.slink_feed.specs.declared.session.Sent.TheVariants.{Packet}
use Rattle.slink_feed.proofs.Stands.{open_before_next}
use Rattle.slink_feed.proofs.session.Session.next_record.Goals as goal

pub returns-clause-sent : goal.returns-clause-sent
returns-clause-sent g c = rw (ap (λ (s : SessionState). s.state) c.self.view_is) at c.next_record.ensures.sent

pub returns-clause-unsent : goal.returns-clause-unsent
returns-clause-unsent g c =
    rw (ap (λ (s : SessionState). s.state) c.self.view_is) at c.next_record.ensures.unsent

pub returns-clause-held : goal.returns-clause-held
returns-clause-held g c = ap (λ (s : SessionState). s.held) c.self.view_is

pub returns-clause-fits : goal.returns-clause-fits
returns-clause-fits g c = c.next_record.ensures.fits

pub invariant_of-self : goal.invariant_of-self
invariant_of-self g c = λ awake.
    c.self.invariant (open_before_next (λ r. Packet (packet_bytes r.0 r.1.now)) sent_without c.next_record.result
    c.args.feed.now _ _ c.args.k c.next_record.ensures.sent c.next_record.ensures.unsent awake)

pub returns-clause-stands : goal.returns-clause-stands
returns-clause-stands g c = invariant_of-self g c

pub next_record-requires : goal.next_record-requires
next_record-requires g c =
    (search rules, (c.requires.in_range, rw (ap (λ (s : SessionState). s.state) c.self.view_is) c.requires.fits))
