-- A session that is closed, and one that is open.
use Rattle.std.proofs.Common.{◌≡◌, ℕ, ◌⊎◌, inl, inr, refl, sym, ap, ◌∙◌, Bool, List, ◌++◌, append-nil}
use Rattle.slink_wire.specs.declared.reply.Reply.{Reply}
use Rattle.slink_wire.specs.declared.reply.Reply.TheVariants as replies
use Rattle.slink_wire.specs.Lines.{Held, IsHeld}
use Rattle.slink_wire.specs.Reply.{reply_bytes}
use Rattle.slink_feed.specs.declared.session.Phase.{Phase}
use Rattle.slink_feed.specs.declared.session.Phase.TheVariants.{Closed}
use Rattle.slink_feed.specs.Serving.{Serves, SessionState, none_served, piece_served}
use Rattle.slink_feed.specs.Session.{State}
use Rattle.slink_feed.specs.Window.{Window}

-- more is taken
abbrev pub Open : Phase → Type 0
Open phase = ¬ (phase ≡ Closed)

pub open_or : (p : Phase) → (p ≡ Closed) ⊎ Open p
open_or Closed = inl refl
open_or phase = inr (λ e. cc e)

pub nothing_after : (way : List ℕ) (reply : Reply) → reply ≡ replies.Nothing → way ++ reply_bytes reply ≡ way
nothing_after way reply none = ap (λ r. way ++ reply_bytes r) none ∙ append-nil way

module _ (feed : List Window) where
  -- a closed session stays
  pub shut_on : (s : SessionState) (bytes way : List ℕ) (last : SessionState) (all : List ℕ)
      → Serves feed s bytes way last all → s.state.phase ≡ Closed → (last ≡ s) × (all ≡ way)
  shut_on s bytes way last all (none_served u w) shut = (refl, refl)
  shut_on s bytes way last all (piece_served u now v bs piece others w sent reply split takes more) shut =
      let same : (reply ≡ replies.Nothing) × (now ≡ u) = takes.closed shut in
      let after : (v ≡ now) × (sent ≡ w ++ reply_bytes reply) =
      shut_on now others (w ++ reply_bytes reply) v sent more
      (rw same.1 shut) in
      (after.0 ∙ same.1, after.1 ∙ nothing_after w reply same.0)

-- what a session comes to is one
pub held_same : (a b : Held) (stream : List ℕ) → IsHeld a stream → IsHeld b stream → a ≡ b
held_same a b stream p q =
    ap (λ (x : List ℕ). record { begun = x; is_too_long = a.is_too_long }) (p.0 ∙ sym q.0)
    ∙ ap (λ (x : Bool). record { begun = b.begun; is_too_long = x }) (p.1 ∙ sym q.1)

pub states_same : (a b : SessionState) → a.state ≡ b.state → a.held ≡ b.held → a ≡ b
states_same a b p q = ap (λ (x : State). record { state = x; held = a.held }) p
    ∙ ap (λ (x : Held). record { state = b.state; held = x }) q
