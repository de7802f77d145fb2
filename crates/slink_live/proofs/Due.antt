-- Of which stations of a link a record is due.
use Rattle.std.proofs.Common.{◌≡◌, ◌≢◌, ◌↔◌, ◌⊎◌, ℕ, ◌+◌, ◌<◌, ◌≤◌, ◌∙◌, ap, subst, sym, refl, arith, inl, inr, Bool}
use Rattle.std.proofs.Common.{true, false, List, length}
use Rattle.std.specs.Bool.{OnFalse, OnTrue}
use Rattle.slink_feed.specs.declared.session.Phase.TheVariants as Phases
use Rattle.slink_feed.specs.declared.session.Sent.{Sent}
use Rattle.slink_feed.specs.declared.session.Sent.TheVariants as Sents
use Rattle.slink_feed.specs.Session.{Grants, IsAtNext, IsWaiting, State, grant_at, sent}
use Rattle.slink_feed.specs.Window.{Window}
use Rattle.slink_feed.proofs.Calls.{Sends, is_packet, is_shut, is_waiting, sends}
use Rattle.slink_feed.proofs.Items.{same_or_not}
use Rattle.slink_feed.proofs.Waits.{sends_here, waits_beside}
use Rattle.slink_live.specs.declared.places.Places.{Places}
use Rattle.slink_live.specs.Served.{LinkState}
use Rattle.slink_live.specs.Awake.{IsFilled}
use Rattle.slink_live.specs.History.{Asks, IsEarlier, IsTurn, none_called}
use Rattle.slink_live.specs.private.Calling.{Gives}
use Rattle.slink_live.specs.private.Granting.{AreDue, Has}
use Rattle.slink_live.proofs.Fairness.{leaves, streams_or_closed}

module _ (feed : List Window) (s : State) (due : Places) where
  -- It is the turn of the first of them.
  pub due_turn : (ring k : ℕ) → AreDue feed s due (length feed) → Has due k
      → ((j : ℕ) → IsEarlier ring j k → ¬ (Has due j)) → IsTurn feed s ring k
  due_turn ring k d has first =
      let lt : k < length feed = (d.within k has).0 in
      record {
        within = lt;
        sends = sends_here feed s k d.streams lt (d.ready k has);
        first = λ j within earlier. waits_beside feed s k j d.streams lt (d.ready k has) within
            (d.rest j within (first j earlier));
      }

same_next : (feed : List Window) (gs hs : Grants) (j : ℕ) → grant_at hs j ≡ grant_at gs j → IsAtNext feed gs j
    → IsAtNext feed hs j
same_next feed gs hs j same at g w granted there = at g w (sym same ∙ granted) there

-- They are known of one station more, or anew of one that was called; of the others nothing changes.
module _ (feed : List Window) (s t : State) (due all : Places) (n m k : ℕ) where
  due_at : AreDue feed s due n → t.phase ≡ Phases.Streaming → n ≤ m → ((j : ℕ) → j < m → j ≢ k → j < n)
      → ((j : ℕ) → j ≢ k → grant_at t.grants j ≡ grant_at s.grants j) → ((j : ℕ) → j ≢ k → Has all j → Has due j)
      → ((j : ℕ) → j < 16 → j ≢ k → Has due j → Has all j)
      → (Has all k → (k < m) × (k < 16) × ¬ (IsAtNext feed t.grants k)) → (¬ (Has all k) → IsAtNext feed t.grants k)
      → AreDue feed t all m
  due_at d streams le below same fewer others off at = record {
    streams = streams;
    within = λ j has. elim (same_or_not j k) [
      | inl is ↦ let here = off (rw is at has) in rw is (here.0, here.1)
      | inr ne ↦ let before = d.within j (fewer j ne has) in (omega (arith, before.0, le), before.1)
    ];
    ready = λ j has. elim (same_or_not j k) [
      | inl is ↦ rw is (off (rw is at has)).2
      | inr ne ↦ λ here. d.ready j (fewer j ne has) (same_next feed t.grants s.grants j (sym (same j ne)) here)
    ];
    rest = λ j lt none. elim (same_or_not j k) [
      | inl is ↦ rw is (at (rw is at none))
      | inr ne ↦ same_next feed s.grants t.grants j (same j ne)
          (d.rest j (below j lt ne) (λ has. none (others j (d.within j has).1 ne has)))
    ];
  }

pub due_on : (feed : List Window) (s : State) (due all : Places) (n : ℕ) → AreDue feed s due n
    → ((j : ℕ) → j ≢ n → Has all j ↔ Has due j) → (Has all n → (n < 16) × ¬ (IsAtNext feed s.grants n))
    → (¬ (Has all n) → IsAtNext feed s.grants n) → AreDue feed s all (n + 1)
due_on feed s due all n d others off at = due_at feed s s due all n (n + 1) n d d.streams (omega arith)
    (λ j lt ne. omega (arith, lt, ne)) (λ j ne. refl) (λ j ne has. (others j ne).0 has)
    (λ j lt ne has. (others j ne).1 has) (λ has. (omega arith, (off has).0, (off has).1)) at

-- A station of which one is due was called: it alone may be no more of those.
pub due_after : (feed : List Window) (s t : State) (due : Places) (k : ℕ) (a : Sent) → AreDue feed s due (length feed)
    → Has due k → sent feed s k ≡ (t, a) → (result : Places) → ((j : ℕ) → j ≢ k → Has result j → Has due j)
    → ((j : ℕ) → j < 16 → j ≢ k → Has due j → Has result j) → (Has result k → ¬ (IsAtNext feed t.grants k))
    → (t.phase ≡ Phases.Streaming → ¬ (Has result k) → IsAtNext feed t.grants k)
    → (t.phase ≡ Phases.Closed) ⊎ AreDue feed t result (length feed)
due_after feed s t due k a d has given result fewer others off at =
    elim (streams_or_closed feed s t k a d.streams given) [
      | inr shut ↦ inl shut
      | inl streams ↦ let here = d.within k has in
          inr (due_at feed s t due result (length feed) (length feed) k d streams (omega arith) (λ j lt ne. lt)
          (λ j ne. (leaves feed s t k j a (λ g granted. ne) given).grant) fewer others
          (λ still. (here.0, here.1, off still)) (at streams))
    ]

-- a station that is due gives something
pub gives_due : (feed : List Window) (due : Places) (k : ℕ) (old new : LinkState) (b : Bool)
    → AreDue feed old.session.state due (length feed) → Has due k → OnTrue b (Gives feed k old new)
    → OnFalse b (sent feed old.session.state k ≡ (old.session.state, Sents.Wait)) → Gives feed k old new
gives_due feed due k old new true d has gives waits = gives
gives_due feed due k old new false d has gives waits =
    absurd (sends_here feed old.session.state k d.streams (d.within k has).0 (d.ready k has) waits)

-- where no record is due, what is sent closes the session
closed_by : (feed : List Window) (s : State) (k : ℕ) (x : State × Sent) → Sends feed s k x → IsAtNext feed s.grants k
    → ¬ (x ≡ (s, Sents.Wait)) → x.0.phase ≡ Phases.Closed
closed_by feed s k x (is_waiting h) at sends = absurd (sends refl)
closed_by feed s k x (is_packet g w bytes on granted here off read) at sends = absurd (off (at g w granted here))
closed_by feed s k x (is_shut shut) at sends = shut
closed_by feed s k x closes at sends = refl

pub gives_end : (feed : List Window) (k : ℕ) (old new : LinkState) → Gives feed k old new
    → IsAtNext feed old.session.state.grants k → new.session.state.phase ≡ Phases.Closed
gives_end feed k old new g at = sym (ap (λ (x : State × Sent). x.0.phase) g.given)
    ∙ closed_by feed old.session.state k _ (sends feed old.session.state k) at g.sends

-- The session was called where no record is due, and it may have said that all is sent.
module _ (feed : List Window) (old new : LinkState) where
  pub asks_or : (b : Bool)
      → OnTrue b (Asks feed old.session old.ring old.pending new.session new.ring new.pending)
      → OnFalse b (new ≡ old) → Asks feed old.session old.ring old.pending new.session new.ring new.pending
  asks_or true asked same = asked
  asks_or false asked same =
      subst (λ (x : LinkState). Asks feed old.session old.ring old.pending x.session x.ring x.pending) (sym same)
      none_called

  pub filled_or : (b : Bool) → OnTrue b (new.session.state.phase ≡ Phases.Closed) → OnFalse b (new ≡ old)
      → OnFalse b (IsWaiting feed old.session.state) → IsFilled feed new
  filled_or true shut same waits room = inr shut
  filled_or false shut same waits room =
      inl (subst (λ (x : LinkState). IsWaiting feed x.session.state) (sym same) waits)
