-- No station of a link is passed over.
use Rattle.std.proofs.Common.{◌≡◌, ◌≢◌, ℕ, ◌+◌, ◌⊎◌, ◌∙◌, ap, subst, refl, sym, arith, inl}
use Rattle.std.proofs.Common.{inr, List, [], ◌∷◌, ◌++◌, Some, None}
use Rattle.std.proofs.lemmas.Bool.Decides.{eqb_tells}
use Rattle.std.proofs.lemmas.Option.{none-some, slice_get_within}
use Rattle.slink_feed.specs.declared.grant.Grant.{Grant}
use Rattle.slink_feed.specs.declared.session.Phase.TheVariants as Phases
use Rattle.slink_feed.specs.declared.session.Sent.{Sent}
use Rattle.slink_feed.specs.Serving.{SessionState}
use Rattle.slink_feed.specs.Session.{State, grant_at, sent}
use Rattle.slink_feed.specs.Window.{Window}
use Rattle.slink_feed.proofs.Calls.{Sends, is_done, is_overrun, is_packet, on_sent, sends}
use Rattle.slink_feed.proofs.Items.{put_there}
use Rattle.slink_feed.proofs.Sendings.{IsOn}
use Rattle.slink_feed.proofs.Waits.{sends_here}
use Rattle.slink_live.specs.Fairness.{HasDue, IsAmong, TakesTurns, no_more, next_called}
use Rattle.slink_live.specs.History.{Asks, IsEarlier, IsTurn, none_called, one_called}
use Rattle.slink_live.proofs.Turning.{Waits}

-- What a call for a station leaves of the others: the session stays, or only streams on.
pub record Leaves (j : ℕ) (s t : State) : Type 0 where
  pub streams : t.phase ≡ Phases.Streaming → s.phase ≡ Phases.Streaming
  pub grant : grant_at t.grants j ≡ grant_at s.grants j

stays : (j : ℕ) (s : State) → Leaves j s s
stays j s = record { streams = λ e. e; grant = refl }

shuts : (j : ℕ) (s t : State) → t.phase ≡ Phases.Closed → t.grants ≡ s.grants → Leaves j s t
shuts j s t shut same = record {
  streams = λ e. absurd (let bad : Phases.Closed ≡ Phases.Streaming = sym shut ∙ e in cc bad);
  grant = ap (λ gs. grant_at gs j) same;
}

leaves_by : (feed : List Window) (s : State) (k j : ℕ) (x : State × Sent) → Sends feed s k x
    → ((g : Grant) → grant_at s.grants k ≡ Some g → j ≢ k) → Leaves j s x.0
leaves_by feed s k j x (is_done on done) ne = shuts j s x.0 refl refl
leaves_by feed s k j x (is_overrun g on off) ne = shuts j s x.0 refl refl
leaves_by feed s k j x (is_packet g w bytes on granted here off read) ne = record {
  streams = λ e. e;
  grant = put_there s.grants k j (Some (record { mode = g.mode; position = g.position + 1 })) None (ne g granted);
}
leaves_by feed s k j x still ne = stays j s

pub leaves : (feed : List Window) (s t : State) (k j : ℕ) (a : Sent)
    → ((g : Grant) → grant_at s.grants k ≡ Some g → j ≢ k) → sent feed s k ≡ (t, a) → Leaves j s t
leaves feed s t k j a ne e = subst (Leaves j s) (ap (λ (x : State × Sent). x.0) e)
    (leaves_by feed s k j (sent feed s k) (sends feed s k) ne)

-- of a station that has a record due something is sent
pub due_sends : (feed : List Window) (s : State) (j : ℕ) → HasDue feed s j → ¬ (Waits feed s j)
due_sends feed s j d =
    sends_here feed s j d.streams (slice_get_within feed j d.ring d.there)
    (λ at. d.beyond (at d.grant d.ring d.granted d.there))

-- In a round from after a station on, another one has not been passed: in what is left, it comes before that station.
pub ahead_first : (k j : ℕ) → j ≢ k → IsEarlier (k + 1) j k
ahead_first k j ne = grind arith

pub ahead_on : (k ring j m : ℕ) → IsEarlier ring j k → ¬ (IsEarlier ring j m) → j ≢ m → IsEarlier (m + 1) j k
ahead_on k ring j m ahead none ne = grind arith

-- What is due at last was due before, and hasn't been passed, where the station wasn't called.
due_ahead : {feed : List Window} {s : State} {ring : ℕ} {ks : List ℕ} {t : State} {turn : ℕ} (k j : ℕ)
    → TakesTurns feed s ring ks t turn → HasDue feed t j → ¬ (IsAmong j ks)
    → HasDue feed s j × (IsEarlier ring j k → IsEarlier turn j k)
due_ahead k j (no_more u p) d none = (d, λ ahead. ahead)
due_ahead {feed} k j (next_called u now last p q m a more first e on) d none =
    let later = due_ahead k j on d (λ x. none (inr x)) in
    let l : Leaves j u now = leaves feed u now m j a (λ g granted x. none (inl x)) e in
    let due : HasDue feed u j = record {
      streams = l.streams later.0.streams;
      grant = later.0.grant;
      ring = later.0.ring;
      granted = sym l.grant ∙ later.0.granted;
      there = later.0.there;
      beyond = later.0.beyond;
    } in
    let within = slice_get_within feed j due.ring due.there in
    let never : ¬ (IsEarlier p j m) = λ x. due_sends feed u j due (first.first j within x) in
    (due, λ ahead. later.1 (ahead_on k p j m ahead never (λ x. none (inl x))))

pub among : (j : ℕ) (ks : List ℕ) → IsAmong j ks ⊎ ¬ (IsAmong j ks)
among j [] = inr (λ x. x)
among j (k ∷ ks) = elim (eqb_tells j k) [
  | inl same ↦ inl (inl same.1)
  | inr other ↦ elim (among j ks) [
    | inl beyond ↦ inl (inr beyond)
    | inr none ↦ inr (λ x. elim x [ inl e ↦ other.1 e | inr y ↦ none y ])
  ]
]

-- Between two calls for a station each other one that has a record due at the second was called.
pub between : {feed : List Window} {s : State} {ring k : ℕ} {mid : List ℕ} {t : State} {turn : ℕ} (j : ℕ)
    → TakesTurns feed s ring (k ∷ mid) t turn → IsTurn feed t turn k → j ≢ k → HasDue feed t j → IsAmong j mid
between {feed} {k = k} {mid = mid} {t = t} {turn = turn} j (next_called u now last p q m a more first e on) again ne
    due = elim (among j mid) [
      | inl is ↦ is
      | inr none ↦ absurd (due_sends feed t j due (again.first j (slice_get_within feed j due.ring due.there)
          ((due_ahead k j on due none).1 (ahead_first k j ne))))
    ]

-- What a session is called for are turns.
turns_last : {feed : List Window} {s : State} {ring : ℕ} {ks : List ℕ} {now : State} {turn : ℕ} {last : State}
    {k : ℕ} {answer : Sent} → TakesTurns feed s ring ks now turn → IsTurn feed now turn k
    → sent feed now k ≡ (last, answer) → TakesTurns feed s ring (ks ++ k ∷ []) last (k + 1)
turns_last {last = last} {k = k} {answer = answer} (no_more u p) first e =
    next_called u last last p (k + 1) k answer [] first e (no_more last (k + 1))
turns_last (next_called u v w p q m a more before x on) first e =
    next_called u v _ p _ m a _ before x (turns_last on first e)

pub asked_turns : {feed : List Window} {s : SessionState} {ring : ℕ} {way : List ℕ} {last : SessionState} {turn : ℕ}
    {all : List ℕ} → Asks feed s ring way last turn all
    → (ks : List ℕ) × TakesTurns feed s.state ring ks last.state turn
asked_turns {s = s} {ring = ring} none_called = ([], no_more s.state ring)
asked_turns (one_called now t m k answer on a before first given held is) =
    let earlier = asked_turns before in (earlier.0 ++ k ∷ [], turns_last earlier.1 first given)

-- A call grants no station.
pub grants_no_more : (feed : List Window) (s t : State) (k j : ℕ) (a : Sent) → sent feed s k ≡ (t, a)
    → grant_at s.grants j ≡ None → grant_at t.grants j ≡ None
grants_no_more feed s t k j a e none = (leaves feed s t k j a
    (λ g granted same. none-some g (sym none ∙ rw (← same) at granted)) e).grant ∙ none

-- A session that streams goes on to, or is closed.
pub streams_or_closed : (feed : List Window) (s t : State) (k : ℕ) (a : Sent) → s.phase ≡ Phases.Streaming
    → sent feed s k ≡ (t, a) → (t.phase ≡ Phases.Streaming) ⊎ (t.phase ≡ Phases.Closed)
streams_or_closed feed s t k a streams e =
    subst (λ (x : State × Sent). IsOn x.0.phase) e (on_sent feed s k (inl streams))
