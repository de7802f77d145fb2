-- No station of a link is passed over while records come.
use Rattle.std.proofs.Common.{◌≡◌, ◌≢◌, ℕ, ◌+◌, ◌<◌, ◌≤◌, ◌∙◌, ap, sym, arith, inl, inr}
use Rattle.std.proofs.Common.{List, [], ◌∷◌, ◌++◌, length, Some, slice_get}
use Rattle.std.proofs.lemmas.Bool.Decides.{eqb_tells}
use Rattle.std.proofs.lemmas.Option.{same_Some, slice_get_within}
use Rattle.slink_wire.specs.declared.lines.LineOutcome.{LineOutcome}
use Rattle.slink_wire.specs.declared.lines.LineOutcome.TheVariants.{More, Line, TooLong}
use Rattle.slink_wire.specs.declared.reply.Reply.{Reply}
use Rattle.slink_feed.specs.declared.session.Phase.{Phase}
use Rattle.slink_feed.specs.declared.session.Phase.TheVariants as Phases
use Rattle.slink_feed.specs.declared.session.Sent.{Sent}
use Rattle.slink_feed.specs.Intake.{pushed}
use Rattle.slink_feed.specs.Serving.{IsAnswer}
use Rattle.slink_feed.specs.Session.{State, answered_in}
use Rattle.slink_feed.specs.Window.{Window, with_record}
use Rattle.slink_feed.proofs.Calls.{shut_sent}
use Rattle.slink_feed.proofs.Items.{get_here, get_there}
use Rattle.slink_feed.proofs.Sendings.{answer_read}
use Rattle.slink_live.specs.Fairness.{HasDue, HasNext, IsAmong, TakesTurns, TakesTurnsOn, called_on, comes, hears}
use Rattle.slink_live.specs.Fairness.{next_called, no_more, no_more_on}
use Rattle.slink_live.specs.History.{IsEarlier, IsTurn}
use Rattle.slink_live.specs.Input.{fed}
use Rattle.slink_live.proofs.Fed.{pushed_once}
use Rattle.slink_live.proofs.Fairness.{ahead_first, ahead_on, among, due_sends, leaves}
use Rattle.slink_live.proofs.Fairness.{streams_or_closed}

-- a ring of these is this one, or this one with further records
abbrev IsLater : List Window → ℕ → Window → Type 0
IsLater feed j w = (v : Window) × (slice_get feed j ≡ Some v) × (w.next ≤ v.next)

later_pushed : (feed : List Window) (r : List ℕ) (j : ℕ) (w : Window) → slice_get feed j ≡ Some w
    → IsLater (pushed feed r) j w
later_pushed feed r j w e = elim (pushed_once feed r) [
  | inl same ↦ (w, rw same e, omega arith)
  | inr p ↦ elim (eqb_tells j p.0) [
    | inl is ↦ let one : p.1 ≡ w = same_Some p.1 w (sym p.2 ∙ rw is.1 at e) in (
      with_record p.1 r,
      rw (p.3, is.1) (get_here feed p.0 (with_record p.1 r) (slice_get_within feed p.0 p.1 p.2)),
      omega (arith, ap (λ (y : Window). y.next) one),
    )
    | inr other ↦ (w, rw p.3 (get_there feed p.0 j (with_record p.1 r) other.1 ∙ e), omega arith)
  ]
]

later_fed : (feed : List Window) (rs : List (List ℕ)) (j : ℕ) (w : Window) → slice_get feed j ≡ Some w
    → IsLater (fed feed rs) j w
later_fed feed [] j w e = (w, e, omega arith)
later_fed feed (r ∷ rs) j w e =
    let one = later_pushed feed r j w e in
    let more = later_fed (pushed feed r) rs j one.0 one.1 in
    (more.0, more.1, omega (arith, one.2, more.2))

-- what is there stays there while records come
next_fed : (feed : List Window) (rs : List (List ℕ)) (s : State) (j : ℕ) → HasNext feed s j → HasNext (fed feed rs) s j
next_fed feed rs s j d =
    let l = later_fed feed rs j d.ring d.there in
    record {
      streams = d.streams;
      grant = d.grant;
      ring = l.0;
      granted = d.granted;
      there = l.1;
      before = omega (arith, l.2, d.before);
    }

next_due : (feed : List Window) (s : State) (j : ℕ) → HasNext feed s j → HasDue feed s j
next_due feed s j d = record {
  streams = d.streams;
  grant = d.grant;
  ring = d.ring;
  granted = d.granted;
  there = d.there;
  beyond = λ e. omega (arith, e, d.before);
}

-- A closed session stays closed, whatever its client says.
shut_heard : (feed : List Window) (s : State) (what : LineOutcome) (now : State) (reply : Reply)
    → s.phase ≡ Phases.Closed → IsAnswer feed s what now reply → now.phase ≡ Phases.Closed
shut_heard feed s More now reply shut a = ap (λ (x : State). x.phase) a.0 ∙ shut
shut_heard feed s (Line line) now reply shut a =
    sym (ap (λ (x : State × Reply). x.0.phase)
    (sym (ap (λ (p : Phase). answered_in p feed s a.0) shut) ∙ a.2)) ∙ shut
shut_heard feed s TooLong now reply shut a = sym (ap (λ (x : State × Reply). x.0.phase) a)

shut_on : {f : List Window} {s : State} {ring : ℕ} {ks : List ℕ} {g : List Window} {t : State} {turn : ℕ}
    → TakesTurnsOn f s ring ks g t turn → s.phase ≡ Phases.Closed → t.phase ≡ Phases.Closed
shut_on (no_more_on a b c) shut = shut
shut_on (comes a rs b d e p q more on) shut = shut_on on shut
shut_on (hears a b now d e p q more what reply is on) shut = shut_on on (shut_heard a b what now reply shut is)
shut_on (called_on a b now d e p q m answer more first is on) shut = shut_on on
    (sym (ap (λ (x : State × Sent). x.0.phase) (sym (shut_sent a b m shut) ∙ is)) ∙ shut)

not_both : (t : State) → t.phase ≡ Phases.Closed → ¬ (t.phase ≡ Phases.Streaming)
not_both t shut streams = let bad : Phases.Closed ≡ Phases.Streaming = sym shut ∙ streams in cc bad

-- What is there is still there, and hasn't been passed, where the station wasn't called.
ahead_grown : (k j : ℕ) {f : List Window} {s : State} {ring : ℕ} {ks : List ℕ} {g : List Window} {t : State} {turn : ℕ}
    → TakesTurnsOn f s ring ks g t turn → t.phase ≡ Phases.Streaming → HasNext f s j → ¬ (IsAmong j ks)
    → IsEarlier ring j k → HasNext g t j × IsEarlier turn j k
ahead_grown k j (no_more_on a b c) streams d none ahead = (d, ahead)
ahead_grown k j (comes a rs b last e p q more on) streams d none ahead =
    ahead_grown k j on streams (next_fed a rs b j d) none ahead
ahead_grown k j (hears a b now last e p q more what reply is on) streams d none ahead =
    elim (answer_read a b now what reply d.streams is) [
      | inr shut ↦ absurd (not_both e (shut_on on (ap (λ (x : State). x.phase) shut)) streams)
      | inl same ↦ ahead_grown k j on streams (rw same d) none ahead
    ]
ahead_grown k j (called_on a b now last e p q m answer more first is on) streams d none ahead =
    let ne : j ≢ m = λ x. none (inl x) in
    let within : j < length a = slice_get_within a j d.ring d.there in
    let never : ¬ (IsEarlier p j m) = λ x. due_sends a b j (next_due a b j d) (first.first j within x) in
    elim (streams_or_closed a b now m answer d.streams is) [
      | inr shut ↦ absurd (not_both e (shut_on on shut) streams)
      | inl on_streams ↦ ahead_grown k j on streams (record {
        streams = on_streams;
        grant = d.grant;
        ring = d.ring;
        granted = (leaves a b now m j answer (λ h granted. ne) is).grant ∙ d.granted;
        there = d.there;
        before = d.before;
      }) (λ x. none (inr x)) (ahead_on k p j m ahead never ne)
    ]

-- It was called before the other's next.
pub called_between : (f : List Window) (s : State) (k j : ℕ) (mid : List ℕ) (g : List Window) (t : State) (turn : ℕ)
    → HasNext f s j → j ≢ k → TakesTurnsOn f s (k + 1) mid g t turn → t.phase ≡ Phases.Streaming → IsTurn g t turn k
    → IsAmong j mid
called_between f s k j mid g t turn d ne turns streams again = elim (among j mid) [
  | inl is ↦ is
  | inr none ↦
      let still = ahead_grown k j turns streams d none (ahead_first k j ne) in
      let within : j < length g = slice_get_within g j still.0.ring still.0.there in
      absurd (due_sends g t j (next_due g t j still.0) (again.first j within still.1))
]

-- one after another
pub turns_joined : {f : List Window} {s : State} {ring : ℕ} {ks : List ℕ} {g : List Window} {t : State} {turn : ℕ}
    {more : List ℕ} {h : List Window} {u : State} {to : ℕ} → TakesTurnsOn f s ring ks g t turn
    → TakesTurnsOn g t turn more h u to → TakesTurnsOn f s ring (ks ++ more) h u to
turns_joined (no_more_on a b c) further = further
turns_joined (comes a rs b last e p q ms on) further = comes a rs b _ _ p _ _ (turns_joined on further)
turns_joined (hears a b now last e p q ms what reply is on) further =
    hears a b now _ _ p _ _ what reply is (turns_joined on further)
turns_joined (called_on a b now last e p q m answer ms first is on) further =
    called_on a b now _ _ p _ m answer _ first is (turns_joined on further)

-- while nothing comes
pub turns_still : {feed : List Window} {s : State} {ring : ℕ} {ks : List ℕ} {t : State} {turn : ℕ}
    → TakesTurns feed s ring ks t turn → TakesTurnsOn feed s ring ks feed t turn
turns_still {feed} (no_more u p) = no_more_on feed u p
turns_still {feed} (next_called u now last p q k answer more first is on) =
    called_on feed u now feed last p q k answer more first is (turns_still on)
