-- What a session makes of the lines that a client says.
use Rattle.std.proofs.Common.{◌≡◌, ℕ, inl, inr, refl, sym, ap, subst, ◌∙◌, List, ◌++◌, append-nil}
use Rattle.std.proofs.Common.{append_assoc}
use Rattle.slink_wire.specs.declared.lines.LineOutcome.{LineOutcome}
use Rattle.slink_wire.specs.declared.lines.LineOutcome.TheVariants.{More, Line, TooLong}
use Rattle.slink_wire.specs.declared.reply.Reply.{Reply}
use Rattle.slink_wire.specs.declared.reply.Reply.TheVariants as replies
use Rattle.slink_wire.specs.declared.request.Request.{Request}
use Rattle.slink_wire.specs.Command.{IsCommand}
use Rattle.slink_wire.specs.Lines.{Held, IsHeld, Spelled, lines_of}
use Rattle.slink_wire.specs.Reply.{reply_bytes}
use Rattle.slink_wire.specs.Request.{request_line, requested}
use Rattle.slink_feed.specs.Serving.{Answers, IsAnswer, Serves, SessionState, none_served, piece_served}
use Rattle.slink_feed.specs.Session.{State, answered}
use Rattle.slink_feed.specs.Window.{Window}
use Rattle.slink_model.proofs.Lined.{IsAnswered, IsAsking}
use Rattle.slink_model.proofs.Waiting.{IsRead, more_called, nothing, the_line}
use Rattle.slink_model.proofs.Requested.{request_answered}
use Rattle.slink_model.proofs.Waiting.{answered_more, answered_on}
use Rattle.slink_feed.proofs.Closing.{Open, open_or, nothing_after}

module _ (feed : List Window) where
  -- what a piece adds
  reported_more : (s new : State) (reply : Reply) (what : LineOutcome) → what ≡ More → IsAnswer feed s what new reply
      → (new ≡ s) × (reply ≡ replies.Nothing)
  reported_more s new reply More e is = is
  reported_more s new reply (Line l) e is = absurd (let bad : Line l ≡ More = e in cc bad)
  reported_more s new reply TooLong e is = absurd (let bad : TooLong ≡ More = e in cc bad)

  -- all lines are answered, so that nothing changes
  pub record IsOn (s last : SessionState) (way all taken rest : List ℕ) : Type 0 where
    pub state : last.state ≡ s.state
    pub sent : all ≡ way
    pub held : IsHeld last.held taken
    pub reported : IsAnswered taken rest

  -- more bytes of the lines were taken, and nothing more of them is spelled
  held_on : (held : Held) (taken more : List ℕ) → lines_of more ≡ lines_of taken → IsHeld held taken → IsHeld held more
  held_on held taken more same h =
      (h.0 ∙ ap (λ (s : Spelled). s.begun) (sym same), h.1 ∙ ap (λ (s : Spelled). s.is_too_long) (sym same))

  pub quiet_on : (s : SessionState) (bytes way : List ℕ) (last : SessionState) (all rest taken : List ℕ)
      → Serves feed s bytes way last all → IsHeld s.held taken → IsAnswered taken (bytes ++ rest)
      → IsOn s last way all (taken ++ bytes) rest
  quiet_on s bytes way last all rest taken (none_served u w) held reported =
      record {
        state = refl;
        sent = refl;
        held = subst (IsHeld u.held) (sym (append-nil taken)) held;
        reported = subst (λ b. IsAnswered b rest) (sym (append-nil taken)) reported;
      }
  quiet_on s bytes way last all rest taken (piece_served u now v bs piece others w sent reply split takes more) held
      reported =
      let cut = subst (IsAnswered taken) (ap (λ b. b ++ rest) split ∙ append_assoc piece others rest) reported in
      let on = answered_on taken piece (others ++ rest) cut in
      let same : (now.state ≡ u.state) × (reply ≡ replies.Nothing) = elim (open_or u.state.phase) [
        | inl shut ↦ (ap (λ (x : SessionState). x.state) (takes.closed shut).1, (takes.closed shut).0)
        | inr awake ↦ let answer = takes.answers taken awake held in
            reported_more u.state now.state reply answer.0
            (answered_more taken piece (others ++ rest) answer.0 cut answer.1) answer.2
      ] in
      let held_now : IsHeld now.held (taken ++ piece) = elim (open_or u.state.phase) [
        | inl shut ↦ rw (takes.closed shut).1 (held_on u.held taken (taken ++ piece) on.0 held)
        | inr awake ↦ takes.held taken awake held
      ] in
      let after = quiet_on now others (w ++ reply_bytes reply) v sent rest (taken ++ piece) more held_now on.1 in
      let all_taken : (taken ++ piece) ++ others ≡ taken ++ bs = append_assoc taken piece others
      ∙ ap (λ b. taken ++ b) (sym split) in
      record {
        state = after.state ∙ same.0;
        sent = after.sent ∙ nothing_after w reply same.1;
        held = subst (IsHeld v.held) all_taken after.held;
        reported = subst (λ b. IsAnswered b rest) all_taken after.reported;
      }

  -- A request whose line isn't reported yet is answered once its line comes: in these bytes, or later.
  module _ (s : State) (request : Request) where
    abbrev line : List ℕ
    line = request_line request

    pub data Comes (last : SessionState) (way all taken rest : List ℕ) : Type 0 where
      not_yet : last.state ≡ s → all ≡ way → IsHeld last.held taken → IsAsking line taken rest
          → Comes last way all taken rest
      it_came : (reply : Reply) → all ≡ way ++ reply_bytes reply
          → answered feed s (requested request) ≡ (last.state, reply) → IsHeld last.held taken → IsAnswered taken rest
          → Comes last way all taken rest

    module _ (awake : Open s.phase) (known : IsCommand (request_line request) (requested request)) where
      piece_on : (now last : SessionState) (taken piece others rest way all : List ℕ) (reply : Reply)
          (what : LineOutcome) → IsHeld now.held (taken ++ piece) → IsAnswer feed s what now.state reply
          → IsRead line (taken ++ piece) (others ++ rest) what
          → Serves feed now others (way ++ reply_bytes reply) last all
          → (IsAsking line (taken ++ piece) (others ++ rest) → now.state ≡ s
          → Comes last (way ++ reply_bytes reply) all ((taken ++ piece) ++ others) rest)
          → Comes last way all ((taken ++ piece) ++ others) rest
      piece_on now last taken piece others rest way all reply More held is (nothing asks) more next =
          rw (nothing_after way reply is.1) at (next asks is.0)
      piece_on now last taken piece others rest way all reply (Line l) held is (the_line items same reported) more next
          =
          let it = request_answered feed s now.state items request reply same known is in
          let after : IsOn now last (way ++ reply_bytes reply) all ((taken ++ piece) ++ others) rest =
          quiet_on now others (way ++ reply_bytes reply) last all rest (taken ++ piece) more held reported in
          it_came reply after.sent (rw (← after.state) at it) after.held after.reported
      piece_on now last taken piece others rest way all reply TooLong held is read more next = elim read [ ]

      pub called_on : (u : SessionState) (bytes way : List ℕ) (last : SessionState) (all rest taken : List ℕ)
          → Serves feed u bytes way last all → u.state ≡ s → IsHeld u.held taken → IsAsking line taken (bytes ++ rest)
          → Comes last way all (taken ++ bytes) rest
      called_on u bytes way last all rest taken (none_served u' w) same held asks =
          not_yet same refl (subst (IsHeld u'.held) (sym (append-nil taken)) held)
          (subst (λ b. IsAsking line b rest) (sym (append-nil taken)) asks)
      called_on u bytes way last all rest taken (piece_served u' now v bs piece others w sent reply split takes more)
          same held asks =
          let still : Open u'.state.phase = subst (λ (x : State). Open x.phase) (sym same) awake in
          let answer : Answers feed u'.state taken (taken ++ piece) now.state reply = takes.answers taken still held in
          let read = more_called line taken piece (others ++ rest) answer.0
          (subst (IsAsking line taken) (ap (λ b. b ++ rest) split ∙ append_assoc piece others rest) asks) answer.1 in
          let all_taken : (taken ++ piece) ++ others ≡ taken ++ bs = append_assoc taken piece others
          ∙ ap (λ b. taken ++ b) (sym split) in
          subst (λ b. Comes v w sent b rest) all_taken (piece_on now v taken piece others rest w sent reply answer.0
          (takes.held taken still held) (subst (λ (x : State). IsAnswer feed x answer.0 now.state reply) same
          answer.2) read more
          (λ called now_same. called_on now others (w ++ reply_bytes reply) v sent rest (taken ++ piece) more now_same
          (takes.held taken still held) called))
