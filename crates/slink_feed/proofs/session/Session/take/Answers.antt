use Rattle.std.proofs.Common.{◌∙◌, ap, rules, subst, take}
use Rattle.slink_feed.specs.Running.{Stands}
use Rattle.slink_feed.specs.Serving.{SessionState}
use Rattle.slink_feed.proofs.Stands.{piece_taken, still_stands}
use Rattle.slink_feed.proofs.session.Session.take.Goals as goal

pub invariant_of-self : goal.invariant_of-self
invariant_of-self g c =
    let old : SessionState = record { state = c.self.inside.progress; held = c.self.inside.lines } in
    let new : SessionState = record { state = c.answer_to.new.self; held = c.take-used.new.self } in
    still_stands c.args.feed.now old new (take c.take-used.result.used c.args.bytes.now) c.answer_to.result
    c.self.invariant (record {
      held = λ stream open_still held. c.take-used.ensures.held stream held;
      answers = λ stream open_still held.
          (c.take-used.result.what, c.take-used.ensures.reported stream held, c.answer_to.ensures.answer);
      closed = λ shut. absurd (c.if-is_closed.ensures.no shut);
    })

pub returns-clause-held : goal.returns-clause-held
returns-clause-held g c stream open_still held =
    c.take-used.ensures.held stream (rw (ap (λ (s : SessionState). s.held) c.self.view_is) held)

pub returns-clause-answers : goal.returns-clause-answers
returns-clause-answers g c stream open_still held = (
  c.take-used.result.what,
  c.take-used.ensures.reported stream (rw (ap (λ (s : SessionState). s.held) c.self.view_is) held),
  rw (ap (λ (s : SessionState). s.state) c.self.view_is) at c.answer_to.ensures.answer,
)

pub returns-clause-whole : goal.returns-clause-whole
returns-clause-whole g c stream open_still held = (
  c.take-used.result.what,
  c.take-used.ensures.reported stream (rw (ap (λ (s : SessionState). s.held) c.self.view_is) held),
  c.take-used.ensures.whole,
)

pub returns-clause-some : goal.returns-clause-some
returns-clause-some g c some =
    piece_taken c.args.self.now c.args.bytes.now c.take-used.result.used some (subst Stands c.self.view_is
    c.self.invariant) (returns-clause-whole g c)
    (λ shut. absurd (c.if-is_closed.ensures.no (ap (λ (s : SessionState). s.state.phase) c.self.view_is ∙ shut)))

pub returns-clause-stands : goal.returns-clause-stands
returns-clause-stands g c = invariant_of-self g c

pub answer_to-requires : goal.answer_to-requires
answer_to-requires g c =
    (search rules, rw (ap (λ (s : SessionState). s.state) c.self.view_is) c.requires)

pub returns-clause-first : goal.returns-clause-first
returns-clause-first g c stream n open_still held less =
    c.take-used.ensures.first stream n
    (rw (ap (λ (s : SessionState). s.held) c.self.view_is) held) less
