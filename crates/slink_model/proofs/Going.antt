-- The first packet of a station on its way is that of the record after the last one held.
use Rattle.std.proofs.Common.{Bool, true, false, ◌==◌, if◌then◌else◌}
use Rattle.std.proofs.Common.{◌≡◌, ℕ, ◌+◌, ◌-◌, ◌%◌, ◌^◌, ◌<◌, inl, inr, refl, sym, ap, subst, ◌∙◌, arith, List}
use Rattle.std.proofs.Common.{[], ◌∷◌, length, length-append, get_or, drop, take, Option, Some}
use Rattle.std.proofs.Common.{None}
use Rattle.std.proofs.lemmas.Option.{slice_get_within}
use Rattle.slink_wire.specs.Packet.{IsPacket, packet_bytes}
use Rattle.slink_wire.specs.Place.{Bears}
use Rattle.slink_wire.proofs.Carrying.{one_place}
use Rattle.slink_wire.proofs.Packets.{one_packet, read_back}
use Rattle.slink_feed.specs.declared.grant.Grant.{Grant}
use Rattle.slink_model.specs.declared.world.Setup.{Setup}
use Rattle.slink_model.specs.declared.world.Step.{Step}
use Rattle.slink_feed.specs.Dialogue.{next_at}
use Rattle.slink_model.specs.Counted.{undelivered}
use Rattle.slink_model.specs.Going.{GoesOn}
use Rattle.slink_feed.specs.Listening.{IsLinked}
use Rattle.slink_feed.specs.Session.{grant_at}
use Rattle.slink_model.specs.Spared.{AreAskable}
use Rattle.slink_model.specs.Slice.{IsSchedule, LackFew, LacksFew}
use Rattle.slink_model.specs.Ties.{Holds, IsLinkTied, IsOnWay, Item, Accepted, Refused, Greeted}
use Rattle.slink_model.specs.Ties.{Carried, Finished, Places, WorldTies, carried_of, of_place, way_bytes}
use Rattle.slink_model.specs.World.{AllHappen, Differ, LinkState, WorldState, number_at, opening}
use Rattle.slink_model.proofs.Following.{near_alike}
use Rattle.slink_model.proofs.Items.{mark, mark_of, marked}
use Rattle.slink_model.proofs.Linked.{any}
use Rattle.slink_model.proofs.Outcomes.{same_cut}
use Rattle.slink_model.proofs.CountedWorld.{at_after, link_at}
use Rattle.slink_model.specs.Ties.{AreOfPlace, IsOfPlace}
use Rattle.slink_model.proofs.Shaking.{IsSuited}
use Rattle.slink_model.proofs.Counts.{Pinned}
use Rattle.slink_model.proofs.Worlds.{ties_after}
use Rattle.slink_feed.proofs.Prefixed.{packet_long}

module _ (places : Places) (differ : Differ places) where
  -- two packets of the same bytes carry a record of one station
  one_many : (j ka kb na nb : ℕ) (ra rb : List ℕ) → ka ≡ kb
      → length (carried_of j (Carried ka na ra)) ≡ length (carried_of j (Carried kb nb rb))
  one_many j ka kb na nb ra rb same =
      ap (λ i. length (carried_of j (Carried i na ra))) same ∙ either (kb == j) (na, ra) (nb, rb)
    where
      either : (t : Bool) (x y : ℕ × List ℕ) → length (if t then x ∷ [] else []) ≡ length (if t then y ∷ [] else [])
      either true x y = refl
      either false x y = refl

  carried_many : (xs ys : List Item) (ka na : ℕ) (ra : List ℕ) (kb nb : ℕ) (rb : List ℕ)
      → IsOfPlace places (Carried ka na ra) → IsOfPlace places (Carried kb nb rb)
      → way_bytes (Carried ka na ra ∷ xs) ≡ way_bytes (Carried kb nb rb ∷ ys) → (j : ℕ)
      → (way_bytes xs ≡ way_bytes ys → length (of_place j xs) ≡ length (of_place j ys))
      → length (of_place j (Carried ka na ra ∷ xs)) ≡ length (of_place j (Carried kb nb rb ∷ ys))
  carried_many xs ys ka na ra kb nb rb p q e j more =
      let a : ℕ = na % 2 ^ 24 in
      let b : ℕ = nb % 2 ^ 24 in
      let cut = same_cut (packet_bytes a ra) (way_bytes xs) (packet_bytes b rb) (way_bytes ys)
      (packet_long a ra p.2 ∙ sym (packet_long b rb q.2)) e in
      let one = one_packet (packet_bytes a ra) a b ra rb (read_back a ra (omega arith))
      (subst (λ x. IsPacket x b rb) (sym cut.0) (read_back b rb (omega arith))) in
      let same : ka ≡ kb = differ ka kb p.0 q.0 p.1 q.1
      (one_place ra p.0.0 q.0.0 p.3 (subst (λ x. Bears x q.0.0) (sym one.1) q.3)) in
      length-append (carried_of j (Carried ka na ra)) (of_place j xs)
      ∙ (ap (λ n. n + length (of_place j xs)) (one_many j ka kb na nb ra rb same)
      ∙ (ap (λ n. length (carried_of j (Carried kb nb rb)) + n) (more cut.1)
      ∙ sym (length-append (carried_of j (Carried kb nb rb)) (of_place j ys))))

  abbrev mark_in : List ℕ → ℕ
  mark_in bytes = mark_of (take 2 bytes)

  some_mark : (i : Item) → 0 < mark i
  some_mark Accepted = omega arith
  some_mark i = omega arith

  first_many : (x y : Item) (xs ys : List Item) → IsOfPlace places x → IsOfPlace places y → mark x ≡ mark y
      → way_bytes (x ∷ xs) ≡ way_bytes (y ∷ ys) → (j : ℕ)
      → (way_bytes xs ≡ way_bytes ys → length (of_place j xs) ≡ length (of_place j ys))
      → length (of_place j (x ∷ xs)) ≡ length (of_place j (y ∷ ys))
  first_many Accepted Accepted xs ys p q same e j more = more (ap (drop 4) e)
  first_many Refused Refused xs ys p q same e j more = more (ap (drop 7) e)
  first_many Greeted Greeted xs ys p q same e j more = more (ap (drop 35) e)
  first_many (Carried ka na ra) (Carried kb nb rb) xs ys p q same e j more =
      carried_many xs ys ka na ra kb nb rb p q e j more
  first_many Finished Finished xs ys p q same e j more = more (ap (drop 3) e)
  first_many x y xs ys p q same e j more = absurd (omega (arith, same))

  -- the same bytes carry as many records of each station
  same_many : (xs ys : List Item) → AreOfPlace places xs → AreOfPlace places ys → way_bytes xs ≡ way_bytes ys → (j : ℕ)
      → length (of_place j xs) ≡ length (of_place j ys)
  same_many [] [] p q e j = refl
  same_many [] (y ∷ ys) p q e j =
      let none : 0 ≡ mark y = ap mark_in e ∙ marked y ys in absurd (omega (arith, none, some_mark y))
  same_many (x ∷ xs) [] p q e j =
      let none : mark x ≡ 0 = sym (marked x xs) ∙ ap mark_in e in absurd (omega (arith, none, some_mark x))
  same_many (x ∷ xs) (y ∷ ys) p q e j =
      first_many x y xs ys p.0 q.0 (sym (marked x xs) ∙ (ap mark_in e ∙ marked y ys)) e j
      (λ f. same_many xs ys p.1 q.1 f j)

-- the number of the first packet on its way
goes_next : (first : ℕ) (F held : List (List ℕ)) (next sent : Option ℕ) (s : ℕ) (o : Option Grant) (i : ℕ × List ℕ)
    (rest other : List (ℕ × List ℕ)) → first + length F < s + length held + 2 ^ 24 → Holds first F next held (Some s)
    → IsOnWay any first F held (Some s) sent o (i ∷ rest) → IsSuited next o other → length (i ∷ rest) ≡ length other
    → i.0 ≡ s + length held
goes_next first F held next sent s None i rest other few holds way suited many = absurd (omega (arith, ap length way))
goes_next first F held next sent s (Some g) i rest other few holds way suited many =
    let n : ℕ = way.0 in
    let same : suited.0 ≡ n = omega (arith, suited.2, way.3, many) in
    let lt : n - first < length F = slice_get_within F (n - first) i.1 way.2.1 in
    let alike : n % 2 ^ 24 ≡ (s + length held) % 2 ^ 24 = ap (λ x. x % 2 ^ 24) (sym same)
    ∙ suited.3 ((s + length held) % 2 ^ 24) holds.4 in
    let is : n ≡ s + length held = elim way.4 [
      | inl here ↦ here
      | inr far ↦ near_alike n (s + length held) alike (omega (arith, way.1, lt, few)) far.0
    ] in
    way.2.0 ∙ is

module _ (places : Places) (differ : Differ places) (first : ℕ) (w : WorldState) (l : LinkState) where
  goes_on_at : (taken : List ℕ) (its : List Item)
      → Pinned places w.client l.session.state taken l.to_server l.to_client its → WorldTies places first w
      → LacksFew first w → w.link ≡ Some l → IsLinked w.client.talk.stage → GoesOn places w l
  goes_on_at taken its pin t lacks is linked =
      let tied = subst (IsLinkTied places first w.pushed w.client w.held w.start) is t.link in
      let ties = tied.1 in
      record {
        items = ties.items;
        bytes = ties.flow linked;
        next = λ k start i rest lt held here.
            goes_next first (get_or w.pushed k []) (get_or w.held k []) (next_at w.client.talk.wants k)
            (number_at l.first_sent k) start (grant_at l.session.state.grants k) i rest (of_place k its)
            (lacks k start held)
            (rw held at (t.beside.holds k lt)) (rw (held, here) at (ties.places_are k lt)) (pin.left.suited k)
            (sym (ap length here) ∙ same_many places differ ties.items its ties.matched pin.left.matched
            (sym (ties.flow linked) ∙ pin.flow) k);
      }

module _ (setup : Setup) (steps : List Step) (now : WorldState) (run : AllHappen (opening setup) steps now)
    (is : IsSchedule setup steps) (askable : AreAskable setup.places.items)
    (lacks : LackFew setup.first (opening setup) steps now run) where
  -- After any steps a link goes on so.
  pub goes_on_after : (l : LinkState) → now.link ≡ Some l → IsLinked now.client.talk.stage
      → GoesOn setup.places.items now l
  goes_on_after l there linked =
      let world = (at_after setup steps now run is askable).world in
      let c = link_at setup is.differ askable.codes now.client _ l (rw there at world.counts) in
      let after = ties_after setup steps now run is lacks in
      goes_on_at setup.places.items is.differ setup.first now l _ (undelivered c.0.delivered c.0.sent)
      (c.2.linked linked) after.1 after.2 there linked
