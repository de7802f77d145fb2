-- A link after the bytes that its session takes.
use Rattle.std.proofs.Common.{◌≡◌, ℕ, inl, inr, sym, ap, subst, List, ◌++◌}
use Rattle.slink_wire.specs.declared.lines.LineOutcome.TheVariants.{More}
use Rattle.slink_wire.specs.declared.reply.Reply.{Reply}
use Rattle.slink_wire.specs.declared.reply.Reply.TheVariants as replies
use Rattle.slink_wire.specs.Reply.{reply_bytes}
use Rattle.slink_feed.specs.Listening.{Listening}
use Rattle.slink_feed.specs.Serving.{Serves, SessionState, Takes, none_served, piece_served}
use Rattle.slink_feed.specs.Session.{State}
use Rattle.slink_model.specs.Ties.{AllHold, AreShown, Leaves, LinkTies, Places}
use Rattle.slink_feed.specs.Running.{HasStream}
use Rattle.slink_feed.specs.Window.{Window}
use Rattle.slink_model.specs.World.{Lists, Numbers}
use Rattle.slink_model.proofs.Commanded.{leaves}
use Rattle.slink_model.proofs.Linked.{any, answered_link}
use Rattle.slink_feed.proofs.Stands.{closed_or}

-- a piece is taken, and answered
piece_answered : (feed : List Window) (old new : SessionState) (piece : List ℕ) (reply : Reply)
    → Takes feed old piece new reply → HasStream old
    → HasStream new × Leaves old.state.phase feed old.state (new.state, reply)
piece_answered feed old new piece reply takes has = elim (closed_or old.state.phase) [
  | inl shut ↦ let same : (reply ≡ replies.Nothing) × (new ≡ old) = takes.closed shut in (
    subst HasStream (sym same.1) has,
    leaves feed old.state More new.state reply (ap (λ (s : SessionState). s.state) same.1, same.0),
  )
  | inr awake ↦ let answer = takes.answers has.0 awake (has.1 awake) in (
    (has.0 ++ piece, λ _. takes.held has.0 awake (has.1 awake)),
    leaves feed old.state answer.0 new.state reply answer.2,
  )
]

module _ (places : Places) (first : ℕ) (windows : List Window) (pushed : Lists) (client : Listening) (held : Lists)
    (start : Numbers) (shown : AreShown places first windows pushed)
    (holds : AllHold places first pushed client.talk.wants held start) (first_sent : Numbers) where
  abbrev pub Linked : State → List ℕ → Type 0
  Linked state way = LinkTies places first (λ k. any) pushed client held start state first_sent way

  pub serves_link : (s : SessionState) (bytes way : List ℕ) (last : SessionState) (all : List ℕ)
      → Serves windows s bytes way last all → HasStream s → Linked s.state way → HasStream last × Linked last.state all
  serves_link s bytes way last all (none_served u w) has l = (has, l)
  serves_link s bytes way last all (piece_served u now v bs piece rest w sent reply split takes more) has l =
      let step = piece_answered windows u now piece reply takes has in
      serves_link now rest (w ++ reply_bytes reply) v sent more step.0
      (answered_link places first windows pushed client held start shown holds u.state first_sent w now.state reply
      step.1 l)
