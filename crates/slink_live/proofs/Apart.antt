-- What is due to a link is by the rings of the stations that it was granted: a record of others changes nothing of it.
use Rattle.std.proofs.Common.{◌≡◌, ℕ, suc, ◌==◌, ◌∙◌, ap, ap₂, refl, sym, arith, inl, inr}
use Rattle.std.proofs.Common.{Bool, ◌&&◌, List, [], ◌∷◌, length, Option, Some, None, slice_get, if◌then◌else◌}
use Rattle.slink_feed.specs.declared.grant.Grant.{Grant}
use Rattle.slink_feed.specs.declared.session.Phase.{Phase}
use Rattle.slink_feed.specs.declared.session.Phase.TheVariants as Phases
use Rattle.slink_feed.specs.Session.{Grants, IsWaiting, State, has_sent_all, at_next, grant_at, has_sent, packet_at}
use Rattle.slink_feed.specs.Session.{sent, sent_in, sent_of}
use Rattle.slink_feed.specs.Window.{Window, record_at}
use Rattle.slink_live.specs.declared.ready.Interest.{Interest}
use Rattle.slink_live.specs.Awake.{AreSame, IsClosable, IsLost, IsUpToDate, Sleeps, has_all, is_lost, must_close, waits}
use Rattle.slink_live.specs.Awake.{writes}
use Rattle.slink_live.specs.Served.{LinkState}
use Rattle.std.proofs.lemmas.Option.{same_Some}

one_done : (w v : Window) (o : Option Grant) → ((g : Grant) → o ≡ Some g → Some v ≡ Some w)
    → has_sent v o ≡ has_sent w o
one_done w v None same = refl
one_done w v (Some g) same = ap (λ (x : Window). has_sent x (Some g)) (same_Some v w (same g refl))

done_alike : (ws vs : List Window) (gs : Grants) → length vs ≡ length ws → AreSame gs ws vs
    → has_sent_all vs gs ≡ has_sent_all ws gs
done_alike [] [] gs long alike = refl
done_alike [] (v ∷ vs) gs long alike = absurd (omega (arith, long))
done_alike (w ∷ ws) [] gs long alike = absurd (omega (arith, long))
done_alike (w ∷ ws) (v ∷ vs) [] long alike = refl
done_alike (w ∷ ws) (v ∷ vs) (o ∷ gs) long alike =
    ap₂ (λ (a b : Bool). a && b) (one_done w v o (alike 0))
    (done_alike ws vs gs (omega (arith, long)) (λ k. alike (suc k)))

module _ (old new : List Window) (s : State) (done : has_sent_all new s.grants ≡ has_sent_all old s.grants)
    (k : ℕ) where
  alike_of : (o : Option Grant) (r q : Option Window) → ((g : Grant) → o ≡ Some g → q ≡ r)
      → sent_of new s k o q ≡ sent_of old s k o r
  alike_of None r q alike = refl
  alike_of (Some g) None q alike = ap (sent_of new s k (Some g)) (alike g refl)
  alike_of (Some g) (Some w) q alike = ap (sent_of new s k (Some g)) (alike g refl)
      ∙ ap (λ b. if g.position == w.next then at_next b s else packet_at s k g (record_at w g.position)) done

alike_in : (p : Phase) (old new : List Window) (s : State) → length new ≡ length old
    → (p ≡ Phases.Streaming → AreSame s.grants old new) → (k : ℕ) → sent_in p new s k ≡ sent_in p old s k
alike_in Phases.Streaming old new s long alike k =
    alike_of old new s (done_alike old new s.grants long (alike refl)) k (grant_at s.grants k) (slice_get old k)
    (slice_get new k) (alike refl k)
alike_in phase old new s long alike k = refl

-- What a link's session gives is the same.
module _ (old new : List Window) (s : State) (long : length new ≡ length old)
    (alike : s.phase ≡ Phases.Streaming → AreSame s.grants old new) where
  pub sent_alike : (k : ℕ) → sent new s k ≡ sent old s k
  sent_alike = alike_in s.phase old new s long alike

  waits_on : IsWaiting old s → IsWaiting new s
  waits_on waiting k lt = sent_alike k ∙ waiting k (omega (arith, lt, long))

  waited : IsWaiting new s → IsWaiting old s
  waited waiting k lt = sym (sent_alike k) ∙ waiting k (omega (arith, lt, long))

pub was_lost : (old new : List Window) (s : State) → (s.phase ≡ Phases.Streaming → AreSame s.grants old new)
    → IsLost new s → IsLost old s
was_lost old new s alike lost = record {
  streams = lost.streams;
  k = lost.k;
  place = record {
    ring = lost.place.ring;
    grant = lost.place.grant;
    there = sym (alike lost.streams lost.k lost.place.grant lost.place.granted) ∙ lost.place.there;
    granted = lost.place.granted;
    left = lost.place.left;
  };
}

module _ (old new : List Window) (l : LinkState) (long : length new ≡ length old)
    (alike : l.session.state.phase ≡ Phases.Streaming → AreSame l.session.state.grants old new) where
  was_closable : (has_ended : Bool) → IsClosable new has_ended l → IsClosable old has_ended l
  was_closable has_ended (must_close over) = must_close over
  was_closable has_ended (is_lost lost) = is_lost (was_lost old new l.session.state alike lost)
  was_closable has_ended (has_all ended all) = has_all ended (record {
    streams = all.streams;
    waits = waited old new l.session.state long alike all.waits;
    none = all.none;
  })

  sleeps_on : (w : Interest) → Sleeps old l w → Sleeps new l w
  sleeps_on w (writes some wants) = writes some wants
  sleeps_on w (waits none wants waiting) = waits none wants (waits_on old new l.session.state long alike waiting)

  pub updated_on : (has_ended : Bool) (w : Interest) → IsUpToDate old has_ended l w → IsUpToDate new has_ended l w
  updated_on has_ended w up_to_date = record {
    stands = λ c. up_to_date.stands (was_closable has_ended c);
    sleeps = sleeps_on w up_to_date.sleeps;
    filled = λ room. elim (up_to_date.filled room) [
      | inl waiting ↦ inl (waits_on old new l.session.state long alike waiting)
      | inr shut ↦ inr shut
    ];
    most = up_to_date.most;
    reads = up_to_date.reads;
    streams = up_to_date.streams;
  }
