-- A session stands for the stream that its link brought.
use Rattle.std.proofs.Common.{◌≡◌, ℕ, ◌<◌, ◌⊎◌, inl, inr, zero, suc, refl, sym, ap, ◌∙◌, arith, false}
use Rattle.std.proofs.Common.{List, [], ◌∷◌, ◌++◌, append-nil, length, length-append, take, Result, Ok, Err}
use Rattle.std.specs.Prelude.{IfErr, IfOk}
use Rattle.std.proofs.lemmas.Bool.{both_ways}
use Rattle.slink_wire.specs.declared.lines.LineOutcome.{LineOutcome}
use Rattle.slink_wire.specs.declared.lines.LineOutcome.TheVariants.{More, Line, TooLong}
use Rattle.slink_wire.specs.declared.reply.Reply.{Reply}
use Rattle.slink_wire.specs.Lines.{IsHeld, lines_of}
use Rattle.slink_wire.specs.Taking.{Yields}
use Rattle.slink_feed.specs.declared.session.Phase.{Phase}
use Rattle.slink_feed.specs.declared.session.Phase.TheVariants.{Closed}
use Rattle.slink_feed.specs.declared.session.Sent.{Sent}
use Rattle.slink_feed.specs.Running.{Stands, StandsFor}
use Rattle.slink_feed.specs.Serving.{Answers, IsAnswer, SessionState, Takes, TakesWhole}
use Rattle.slink_feed.specs.Session.{State, sent}
use Rattle.slink_feed.specs.Window.{Window}
use Rattle.slink_feed.proofs.Calls.{shut_sent}
use Rattle.slink_feed.proofs.Closing.{open_or}

pub closed_or : (p : Phase) → (p ≡ Closed) ⊎ ¬ (p ≡ Closed)
closed_or p = open_or p

-- a session that isn't closed once it was called for a packet wasn't closed before
pub open_before : (feed : List Window) (s t : State) (k : ℕ) (a : Sent) → sent feed s k ≡ (t, a)
    → ¬ (t.phase ≡ Closed) → ¬ (s.phase ≡ Closed)
open_before feed s t k a is awake shut =
    awake (ap (λ (x : State × Sent). x.0.phase) (sym is ∙ shut_sent feed s k shut) ∙ shut)

pub open_before_next : {X E : Type 0} (f : X → Sent) (g : E → Sent) (r : Result X E) (feed : List Window)
    (s t : State) (k : ℕ) → IfOk r (λ x. sent feed s k ≡ (t, f x)) → IfErr r (λ e. sent feed s k ≡ (t, g e))
    → ¬ (t.phase ≡ Closed) → ¬ (s.phase ≡ Closed)
open_before_next f g (Ok x) feed s t k is none = open_before feed s t k (f x) is
open_before_next f g (Err e) feed s t k none is = open_before feed s t k (g e) is

-- something is reported of no byte at all only where a line was too long
nothing_reported : (what : LineOutcome) (stream : List ℕ) (count : ℕ) → 0 < count
    → (lines_of stream).is_too_long ≡ false → Yields what stream stream → (what ≡ More → 0 ≡ count) → ⊥
nothing_reported More stream count some short tells whole = omega (arith, whole refl, some)
nothing_reported (Line line) stream count some short tells whole =
    omega (arith, ap length tells.0, length-append (lines_of stream).lines (line.items ∷ []))
nothing_reported TooLong stream count some short tells whole = both_ways (lines_of stream).is_too_long short tells.1

-- some bytes are taken
takes_some : (stream bytes : List ℕ) (used : ℕ) → 0 < length bytes → (lines_of stream).is_too_long ≡ false
    → TakesWhole stream (stream ++ take used bytes) used (length bytes) → 0 < used
takes_some stream bytes zero some short whole =
    absurd (nothing_reported whole.0 stream (length bytes) some short
    (rw (append-nil stream) at whole.1) whole.2)
takes_some stream bytes (suc n) some short whole = omega arith

pub piece_taken : (old : SessionState) (bytes : List ℕ) (used : ℕ) → 0 < length bytes → Stands old
    → ((stream : List ℕ) → ¬ (old.state.phase ≡ Closed) → IsHeld old.held stream
    → TakesWhole stream (stream ++ take used bytes) used (length bytes))
    → (old.state.phase ≡ Closed → used ≡ length bytes) → 0 < used
piece_taken old bytes used some stands whole closed = elim (closed_or old.state.phase) [
  | inl shut ↦ let all : used ≡ length bytes = closed shut in omega (arith, all, some)
  | inr unshut ↦
      let s : (stream : List ℕ) × StandsFor old stream = stands unshut in
      takes_some s.0 bytes used some (sym s.1.0.1 ∙ s.1.1) (whole s.0 unshut s.1.0)
]

-- no line is too long, since the session isn't closed
short_after : (feed : List Window) (s new : State) (before after : List ℕ) (reply : Reply) → ¬ (new.phase ≡ Closed)
    → (what : LineOutcome) → Yields what before after → IsAnswer feed s what new reply
    → (lines_of after).is_too_long ≡ false
short_after feed s new before after reply unshut TooLong tells answer =
    absurd (unshut (sym (ap (λ (p : State × Reply). p.0.phase) answer)))
short_after feed s new before after reply unshut what tells answer = tells.1

pub stands_on : (feed : List Window) (old new : SessionState) (stream piece : List ℕ) (reply : Reply)
    → Takes feed old piece new reply → ¬ (old.state.phase ≡ Closed) → StandsFor old stream
    → ¬ (new.state.phase ≡ Closed) → StandsFor new (stream ++ piece)
stands_on feed old new stream piece reply takes awake stands unshut =
    let held : IsHeld new.held (stream ++ piece) = takes.held stream awake stands.0 in
    let answers : Answers feed old.state stream (stream ++ piece) new.state reply =
    takes.answers stream awake stands.0 in (
      held,
      held.1 ∙ short_after feed old.state new.state stream (stream ++ piece) reply unshut answers.0 answers.1
          answers.2,
    )

pub still_stands : (feed : List Window) (old new : SessionState) (piece : List ℕ) (reply : Reply) → Stands old
    → Takes feed old piece new reply → Stands new
still_stands feed old new piece reply stands takes unshut =
    let awake : ¬ (old.state.phase ≡ Closed) = λ shut. unshut (rw (takes.closed shut).1 shut) in
    let s : (stream : List ℕ) × StandsFor old stream = stands awake in
    (s.0 ++ piece, stands_on feed old new s.0 piece reply takes awake s.1 unshut)

-- a session that has taken nothing
pub new_stands : (s : SessionState) → IsHeld s.held [] → Stands s
unfolding lines_of
new_stands s held unshut = ([], (held, held.1))
