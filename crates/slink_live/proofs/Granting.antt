-- Which stations concern the links in their slots.
use Rattle.std.proofs.Common.{◌≡◌, ℕ, ◌+◌, ◌<◌, ◌∙◌, arith, refl, sym}
use Rattle.std.proofs.Common.{length-set, List, length, set, get_or, Option, Some, None, IfSome}
use Rattle.std.proofs.lemmas.List.{get_or_default}
use Rattle.std.proofs.lemmas.Option.{none-some}
use Rattle.slink_feed.specs.declared.grant.Grant.{Grant}
use Rattle.slink_feed.specs.Serving.{SessionState}
use Rattle.slink_feed.specs.Session.{Fits, grant_at}
use Rattle.slink_feed.specs.Window.{Window}
use Rattle.slink_live.specs.declared.places.Places.{Places}
use Rattle.slink_live.specs.Served.{AllFit, LinkState, link_state}
use Rattle.slink_live.specs.History.{Asks, none_called, one_called}
use Rattle.slink_live.specs.private.Calling.{HasFilled}
use Rattle.slink_live.specs.private.Granting.{AreCovered, Covers, CoversIn, no_places}
use Rattle.slink_live.proofs.Fairness.{grants_no_more, leaves}
use Rattle.slink_live.proofs.Slots.{at_slot, each_some}

-- one slot changed, and is sent no records of further stations
covered_still : (links : List (Option LinkState)) (granted : List Places) (j : ℕ) (new : Option LinkState)
    → AreCovered links granted → j < length links → CoversIn (get_or granted j no_places) new
    → AreCovered (set links j new) granted
covered_still links granted j new covered lt here = record {
  count = covered.count ∙ sym (length-set links j new);
  each = λ k. at_slot (λ i o. CoversIn (get_or granted i no_places) o) links j new lt here k (λ ne. covered.each k);
}

granted_before : (o : Option Grant) (q : Option Grant) → (o ≡ None → q ≡ None) → (g : Grant) → q ≡ Some g
    → (h : Grant) × (o ≡ Some h)
granted_before None q none g is = absurd (none-some g (sym (none refl) ∙ is))
granted_before (Some h) q none g is = (h, refl)

-- one whose session was called for packets
asked_covers : (places : Places) {feed : List Window} {s : SessionState} {ring : ℕ} {way : List ℕ} {last : SessionState}
    {turn : ℕ} {all : List ℕ} → Asks feed s ring way last turn all → Covers places (link_state s ring way)
    → Covers places (link_state last turn all)
asked_covers places none_called covers streams j g granted = covers streams j g granted
asked_covers places {feed} (one_called now t m k answer on a before first given held is) covers streams j g granted =
    let streamed = (leaves feed now.state t.state k (k + 1) answer
    (λ h is_granted same. omega (arith, same)) given).streams streams in
    let earlier = granted_before (grant_at now.state.grants j) _
    (grants_no_more feed now.state t.state k j answer given) g granted in
    asked_covers places before covers streamed j earlier.0 earlier.1

covers_filled : (places : Places) (feed : List Window) (o new : Option LinkState) → CoversIn places o
    → HasFilled feed o new → CoversIn places new
covers_filled places feed None new covers h l is = absurd (none-some l (sym h ∙ is))
covers_filled places feed (Some l) new covers h now is =
    each_some (Covers places) (Some h.0) (asked_covers places h.2 (covers l refl)) now (sym h.1 ∙ is)

-- A call saw the link in a slot.
module _ (slots : List (Option LinkState)) (j : ℕ) (lt : j < length slots) {o : Option LinkState}
    (link : o ≡ get_or slots j o) where
  stood : o ≡ get_or slots j None
  stood = link ∙ sym (get_or_default slots j None o lt)

  pub fits_in : (feed : List Window) → AllFit feed slots → IfSome o (λ l. Fits feed l.session.state)
  fits_in feed fits = by o (λ l is. fits j l (sym stood ∙ is))
    where
      by : (x : Option LinkState) → ((l : LinkState) → x ≡ Some l → Fits feed l.session.state)
          → IfSome x (λ l. Fits feed l.session.state)
      by None each = tt
      by (Some l) each = each l refl

  pub filled_covered : {granted : List Places} (feed : List Window) (new : Option LinkState)
      → AreCovered slots granted → HasFilled feed o new → AreCovered (set slots j new) granted
  filled_covered {granted} feed new covered h = covered_still slots granted j new covered lt
      (covers_filled (get_or granted j no_places) feed o new (λ l is. covered.each j l (sym stood ∙ is)) h)
