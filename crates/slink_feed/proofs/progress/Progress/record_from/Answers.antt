use Rattle.std.proofs.Common.{◌≡◌, ◌+◌, ap, subst, sym, ◌∙◌, arith, Some}
use Rattle.std.proofs.lemmas.Option.{same_Some}
use Rattle.slink_feed.specs.declared.session.Phase.TheVariants.{Streaming}
use Rattle.slink_feed.specs.Session.{State, at, grant_at, packet_at, sent}
use Rattle.slink_feed.proofs.Reached.{reached_next, reached_with, sent_by_record}
use Rattle.slink_feed.proofs.progress.Progress.record_from.Goals as goal

pub returns-in-Some-clause-sent : goal.returns-in-Some-clause-sent
returns-in-Some-clause-sent g c =
    let view : State = at c.self.inside.phase c.self.inside.grants in
    let streams : view.phase ≡ Streaming = ap (λ (s : State). s.phase) c.self.view_is ∙ c.requires.phase in
    let granted : grant_at view.grants c.args.k ≡ Some c.args.grant =
    ap (λ (s : State). grant_at s.grants c.args.k) c.self.view_is ∙ c.requires.granted in
    subst (λ (s : State). sent c.args.feed.now s c.args.k
    ≡ packet_at view c.args.k c.args.grant (Some c.in-Some.bytes.now)) c.self.view_is
    (sent_by_record c.args.feed.now view c.args.k c.args.grant c.ring-ring.result.now (Some c.in-Some.bytes.now) streams
    granted c.ring-ring.ensures.ring c.in-Some.ensures.value (λ same. omega (arith, same, c.in-Some.ensures.within)))

pub returns-in-Some-clause-few : goal.returns-in-Some-clause-few
returns-in-Some-clause-few g c w there =
    rw (same_Some w c.ring-ring.result.now (sym there ∙ c.ring-ring.ensures.ring)) c.get.ensures.few

pub returns-in-Some-clause-fits : goal.returns-in-Some-clause-fits
returns-in-Some-clause-fits g c =
    let streams : c.self.inside.phase ≡ Streaming = ap (λ (s : State). s.phase) c.self.view_is
    ∙ c.requires.phase in (
      rw streams tt,
      reached_with c.args.feed.now c.self.inside.grants c.args.k
          (record { mode = c.args.grant.mode; position = c.args.grant.position + 1 })
          (reached_next c.args.feed.now c.args.k c.ring-ring.result.now c.args.grant.position c.ring-ring.ensures.ring
          c.in-Some.ensures.within)
          (rw (ap (λ (s : State). s.grants) c.self.view_is) c.requires.fits),
    )

pub returns-in-None-clause-fits : goal.returns-in-None-clause-fits
returns-in-None-clause-fits g c = (rw c.requires.phase tt, c.requires.fits)
