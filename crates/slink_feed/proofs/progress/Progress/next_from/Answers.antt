use Rattle.std.proofs.Common.{◌∙◌, None, ap, inl, inr, sym}
use Rattle.slink_feed.specs.Session.{State, packet_at}
use Rattle.slink_feed.proofs.Reached.{sent_at_next, sent_by_record}
use Rattle.slink_feed.proofs.progress.Progress.next_from.Goals as goal

pub returns-then-grant-next-clause-unsent : goal.returns-then-grant-next-clause-unsent
returns-then-grant-next-clause-unsent g c =
    sent_at_next c.args.feed.now c.args.self.now c.args.k c.args.grant c.ring.result.now c.next.result
    c.requires.phase c.requires.granted c.ring.ensures.ring c.next.ensures.value c.if-grant-next.true
    ∙ c.at_next.ensures.sent

pub returns-then-grant-next-clause-fits : goal.returns-then-grant-next-clause-fits
returns-then-grant-next-clause-fits g c = (
  elim c.at_next.ensures.phase [ inl same ↦ rw (same, c.requires.phase) tt | inr closed ↦ rw closed tt ],
  rw c.at_next.ensures.grants c.requires.fits,
)

pub returns-in-None-clause-unsent : goal.returns-in-None-clause-unsent
returns-in-None-clause-unsent g c =
    sent_by_record c.args.feed.now c.args.self.now c.args.k c.args.grant c.ring.result.now None c.requires.phase
    c.requires.granted c.ring.ensures.ring
    (sym (c.in-None.ensures.gone c.ring.result.now c.ring.ensures.ring))
    (λ same. c.if-grant-next.false (same ∙ sym c.next.ensures.value))
    ∙ ap (λ (s : State). packet_at s c.args.k c.args.grant None) (sym (c.self.view_is ∙ c.in-None.ensures.none))

pub returns-in-None-clause-fits : goal.returns-in-None-clause-fits
returns-in-None-clause-fits g c = (
  tt,
  rw (ap (λ (s : State). s.grants) (c.self.view_is ∙ c.in-None.ensures.none)) c.requires.fits,
)
