-- What a client reads of items, by how many bytes of them it accepted.
use Rattle.slink_model.proofs.Stations.{each_read}
use Rattle.slink_feed.specs.Session.{IsBefore}
use Rattle.slink_model.specs.Spared.{IsFair}
use Rattle.slink_feed.specs.declared.dialogue.Ending.{Ending}
use Rattle.std.proofs.Common.{◌≡◌, ℕ, ◌+◌, ◌-◌, ◌%◌, ◌^◌, ◌<◌, inl, inr, refl, sym, ap, subst, ◌∙◌, arith, List}
use Rattle.std.proofs.Common.{[], ◌∷◌, ◌++◌, append-nil, length, length-drop, map, take, drop, take-append-drop}
use Rattle.std.proofs.Common.{codes, Option}
use Rattle.std.proofs.Common.{Some, None, get_or, length-set}
use Rattle.std.proofs.lemmas.List.{take-append-le}
use Rattle.slink_wire.specs.declared.request.Request.{Request}
use Rattle.slink_wire.specs.declared.request.Request.TheVariants as requests
use Rattle.slink_wire.specs.Request.{request_bytes, request_line}
use Rattle.slink_wire.proofs.Packets.{read_back}
use Rattle.slink_feed.specs.declared.dialogue.Ending.TheVariants as endings
use Rattle.slink_feed.specs.declared.dialogue.Event.{Event}
use Rattle.slink_feed.specs.declared.dialogue.Event.TheVariants as events
use Rattle.slink_feed.specs.declared.dialogue.Stage.{Stage}
use Rattle.slink_feed.specs.declared.dialogue.Stage.TheVariants.{Station, Number, Packets, Ended}
use Rattle.slink_feed.specs.declared.dialogue.Wanted.{Wanted}
use Rattle.slink_feed.specs.declared.grant.Grant.{Grant}
use Rattle.slink_feed.specs.declared.session.Phase.TheVariants.{Granted}
use Rattle.slink_model.specs.Counted.{Gained, undelivered, events_upon, on_item, part, talk_upon, wholes, with_event}
use Rattle.slink_model.specs.Counted.{with_events}
use Rattle.slink_feed.specs.Cutting.{IsBegun, IsWhole}
use Rattle.slink_feed.specs.Dialogue.{Talk, Reply, Packet, End, at_packet, ended, read}
use Rattle.slink_feed.specs.Dialogue.{heard, next_at, numbered, to_place, want_at}
use Rattle.slink_feed.specs.Listening.{AreBrought, IsLinked, events_of, talk_after}
use Rattle.slink_feed.specs.Session.{State, grant_at}
use Rattle.slink_model.specs.Spared.{IsSpared}
use Rattle.slink_model.specs.Ties.{Item, Accepted, Refused, Carried, Finished, Places, item_bytes, of_place, way_bytes}
use Rattle.slink_model.specs.World.{Differ, Numbers}
use Rattle.slink_model.proofs.Counting.{brought_of, whole_of, whole_or}
use Rattle.slink_feed.proofs.Prefixed.{wanted_reported, packet_long}
use Rattle.slink_feed.proofs.Received.{begun_none}
use Rattle.slink_model.proofs.Items.{carried_here}
use Rattle.slink_model.proofs.Lined.{IsAnswered, asks_more}
use Rattle.slink_feed.proofs.OneReading.{IsRest}
use Rattle.slink_model.proofs.ReadAll.{reported_events}
use Rattle.slink_wire.proofs.RequestLines.{end_line, station_line}
use Rattle.slink_model.proofs.Requested.{number_line}
use Rattle.slink_model.proofs.Placed.{called_next, place_found, lacks_end, some_if, suited_next, suited_wanted}
use Rattle.slink_model.specs.Ties.{IsOfPlace}
use Rattle.slink_model.proofs.Shaking.{AreCalled, AreSent, Has, IsSuited, Left, Shakes, asks, asks_end}
use Rattle.slink_model.proofs.Shaking.{asks_number, asks_place, fields_at, has, has_none, has_number, has_place}
use Rattle.slink_model.proofs.Shaking.{streams}
use Rattle.slink_model.proofs.ReadAll.{linked_or}
use Rattle.slink_model.specs.Spared.{HaveCodes}
use Rattle.slink_model.specs.World.{written}
use Rattle.slink_feed.proofs.Wholes.{prefix_begun}
use Rattle.slink_wire.specs.Written.{IsLine}
use Rattle.slink_model.proofs.Shaking.{Asks}

-- what the client's table makes of items is what they are
abbrev pub Same : Talk → List Item → Type 0
Same t ws = (talk_after t (map brought_of ws) ≡ talk_upon t ws) × ((f : Numbers) (g : Gained)
    → with_events f (events_of t (map brought_of ws)) g ≡ with_events f (events_upon t ws) g)

same_more : (t : Talk) (i : Item) (ws : List Item) → read t (whole_of i) ≡ on_item t.stage i t
    → Same (on_item t.stage i t).0 ws → Same t (i ∷ ws)
same_more t i ws h more = (
  ap (λ (x : Talk × Event). talk_after x.0 (map brought_of ws)) h ∙ more.0,
  λ f g. reported_events f (read t (whole_of i)).1 (events_of (read t (whole_of i)).0 (map brought_of ws)) g
      ∙ (ap (λ (x : Talk × Event). with_events f (events_of x.0 (map brought_of ws)) (with_event f x.1 g)) h
      ∙ more.1 f (with_event f (on_item t.stage i t).1 g)),
)

-- what an event says goes after what was said
said : (f : Numbers) (e : Event) (g : Gained) → (with_event f e g).to_server ≡ g.to_server ++ written e
said f (events.Say line) g = refl
said f event g = sym (append-nil g.to_server)

-- there stays a list for each station
pub wide_event : (f : Numbers) (e : Event) (g : Gained) → length (with_event f e g).held ≡ length g.held
wide_event f (events.Record k n bytes) g = length-set g.held k (get_or g.held k [] ++ bytes ∷ [])
wide_event f event g = refl

-- a prefix of an item that isn't whole is begun
part_begun : (stage : Stage) (i : Item) (is : List Item) (d : ℕ) → IsWhole stage (item_bytes i) (whole_of i)
    → d < length (item_bytes i) → IsBegun stage (take d (way_bytes (i ∷ is)))
part_begun stage i is d whole lt =
    subst (IsBegun stage) (sym (take-append-le d (item_bytes i) (way_bytes is) (omega (arith, lt))))
    (prefix_begun _ _ (drop d (item_bytes i)) _ (omega (arith, lt, length-drop d (item_bytes i)))
    (subst (λ b. IsWhole stage b (whole_of i)) (sym (take-append-drop d (item_bytes i))) whole))

linked_spared : (stage : Stage) → IsLinked stage → IsSpared stage
linked_spared (Ended ending) linked = absurd linked
linked_spared stage linked = tt

-- what a client hears that takes more
pub data Hears (places : Places) (t : Talk) : Item → Type 0 where
  hears_place : (k : ℕ) → t.stage ≡ Station k → Hears places t Accepted
  hears_number : (k : ℕ) → t.stage ≡ Number k → Hears places t Accepted
  hears_packet : (k n : ℕ) (r : List ℕ) → t.stage ≡ Packets → IsOfPlace places (Carried k n r)
      → Hears places t (Carried k n r)

module _ (places : Places) (s : State) (taken : List ℕ) where
  -- how a client stands that has heard what was whole
  pub record Heard (t : Talk) (way : List ℕ) (items : List Item) : Type 0 where
    pub spared : IsSpared t.stage
    pub called : AreCalled places t.wants
    pub left : IsLinked t.stage → Left places s taken t way items
    pub over : ¬ (IsLinked t.stage) → (items ≡ []) × IsAnswered taken way

  -- the first item is whole
  pub record First (t : Talk) (way : List ℕ) (i : Item) (is : List Item) : Type 0 where
    pub whole : IsWhole t.stage (item_bytes i) (whole_of i)
    pub reads : read t (whole_of i) ≡ on_item t.stage i t
    pub hears : IsLinked (on_item t.stage i t).0.stage → Hears places t i
    pub after : Heard (on_item t.stage i t).0 (way ++ written (on_item t.stage i t).1) is

  -- what a client reads of items: these are whole, and so much of the others
  pub record Outcome (way : List ℕ) (t : Talk) (ws bs : List Item) (p : ℕ) : Type 0 where
    pub are : AreBrought t (map brought_of ws)
    pub same : Same t ws
    pub is_begun : IsRest (talk_upon t ws).stage (take p (way_bytes bs))
    pub heard : (f : Numbers) (g : Gained) → g.to_server ≡ way
        → Heard (talk_upon t ws) (with_events f (events_upon t ws) g).to_server bs

  pub linked_heard : (t : Talk) (way : List ℕ) (items : List Item) → IsLinked t.stage → AreCalled places t.wants
      → Left places s taken t way items → Heard t way items
  linked_heard t way items there called left = record {
    spared = linked_spared t.stage there;
    called = called;
    left = λ _. left;
    over = λ over. absurd (over there);
  }

  ended_heard : (t : Talk) (ending : Ending) (way : List ℕ) (is : List Item) → IsFair ending
      → AreCalled places t.wants → is ≡ [] → IsAnswered taken way → Heard (ended ending t).0 (way ++ []) is
  ended_heard t ending way is fair called none told = record {
    spared = fair;
    called = called;
    left = λ linked. absurd linked;
    over = λ _. (none, subst (IsAnswered taken) (sym (append-nil way)) told);
  }

-- at the stage where it stands
pub at_stage : (P : Talk → Type 0) (t : Talk) (stage : Stage) → t.stage ≡ stage → P (record t { stage = stage }) → P t
at_stage P t stage is p = subst (λ (x : Stage). P (record t { stage = x })) (sym is) p

module _ (places : Places) (differ : Differ places) (codes_are : HaveCodes places) (s : State) (taken : List ℕ) where
  -- a line is said
  said_heard : (way : List ℕ) (t : Talk) (r : Request) → IsLinked t.stage → AreCalled places t.wants
      → IsAnswered taken way → IsLine (request_line r) → Asks t s.phase r
      → ((k : ℕ) → IsSuited (next_at t.wants k) (grant_at s.grants k) [])
      → Heard places s taken t (way ++ request_bytes r) []
  said_heard way t r there called told line asked suits =
      linked_heard places s taken t (way ++ request_bytes r) [] there called (record {
        matched = tt;
        suited = suits;
        shakes = asks r asked (asks_more (request_line r) taken way line told) refl;
        ends = tt;
      })

  -- the next station is requested, or the packets are
  next_heard : (way : List ℕ) (t : Talk) (k : ℕ) (o : Option Wanted) → AreCalled places t.wants
      → IsAnswered taken way → s.phase ≡ Granted k → want_at t.wants (k + 1) ≡ o
      → ((i : ℕ) → IsSuited (next_at t.wants i) (grant_at s.grants i) [])
      → Heard places s taken (to_place o (k + 1) t).0 (way ++ written (to_place o (k + 1) t).1) []
  next_heard way t k None called told phase want suits =
      said_heard way (record t { stage = Packets }) requests.End tt called told end_line (asks_end k refl phase) suits
  next_heard way t k (Some w) called told phase want suits =
      let fields = fields_at places t.wants codes_are called (k + 1) w want in
      said_heard way (record t { stage = Station (k + 1) }) (requests.Station w.place) tt called told
      (station_line w.place fields.0 fields.1) (asks_place (k + 1) w refl want (inr (k, refl, phase))) suits

  module _ (way : List ℕ) (t : Talk) (called : AreCalled places t.wants) where
    abbrev FirstOf : List Item → Type 0
    FirstOf [] = Unit {0}
    FirstOf (i ∷ is) = First places s taken t way i is

    -- a reply is heard
    reply_first : (i : Item) → Has t s.phase i → IsAnswered taken way
        → ((k : ℕ) → IsSuited (next_at t.wants k) (grant_at s.grants k) (of_place k (i ∷ []))) → FirstOf (i ∷ [])
    reply_first i (has_place k stage phase) told suits =
        let request : Request = numbered t.mode (next_at t.wants k) in
        at_stage (λ u. First places s taken u way Accepted []) t (Station k) stage (record {
          whole = (refl, lacks_end (codes "OK" ++ 13 ∷ []) refl, omega arith);
          reads = refl;
          hears = λ _. hears_place k refl;
          after = said_heard way (record (heard (Reply (codes "OK")) t) { stage = Number k }) request tt called told
              (number_line t.mode (next_at t.wants k)) (asks_number k refl phase) suits;
        })
    reply_first i (has_number k stage phase) told suits =
        at_stage (λ u. First places s taken u way Accepted []) t (Number k) stage (record {
          whole = (refl, lacks_end (codes "OK" ++ 13 ∷ []) refl, omega arith);
          reads = refl;
          hears = λ _. hears_number k refl;
          after = next_heard way (heard (Reply (codes "OK")) (record t { stage = Number k })) k
              (want_at t.wants (k + 1)) called told phase refl suits;
        })
    reply_first i (has_none k stage phase) told suits =
        at_stage (λ u. First places s taken u way Refused []) t (Number k) stage (record {
          whole = (refl, lacks_end (codes "ERROR" ++ 13 ∷ []) refl, omega arith);
          reads = refl;
          hears = λ linked. absurd linked;
          after = ended_heard places s taken (heard (Reply (codes "ERROR")) (record t { stage = Number k }))
              (endings.Refused k) way [] tt called refl told;
        })

    -- a packet or the end is
    packet_first : (items : List Item) → t.stage ≡ Packets → ¬ (IsBefore s.phase) → IsAnswered taken way
        → Left places s taken t way items → AreSent items → FirstOf items
    packet_first [] stage later told left sent = tt
    packet_first (Carried k n r ∷ is) stage later told left sent =
        let m : ℕ = n % 2 ^ 24 in
        let next : ℕ = (m + 1) % 2 ^ 24 in
        let want : Option ℕ = next_at t.wants k in
        let grant : Option Grant = grant_at s.grants k in
        let rest : List (ℕ × List ℕ) = of_place k is in
        let found = place_found places t.wants called differ k left.matched.0.0 r left.matched.0.1 left.matched.0.3 in
        let suited = subst (IsSuited want grant) (ap (λ b. b ++ rest) (carried_here k n r)) (left.suited k) in
        at_stage (λ u. First places s taken u way (Carried k n r) is) t Packets stage (record {
          whole = (read_back m r (omega arith), packet_long m r left.matched.0.2);
          reads = ap (λ (o : Option ℕ). at_packet o m r (heard (Packet m r) (record t { stage = Packets }))) found.0
              ∙ wanted_reported want k m r _ (some_if want m (suited_wanted want grant n r rest suited));
          hears = λ _. hears_packet k n r refl left.matched.0;
          after = linked_heard places s taken _ _ is tt
              (called_next places t.wants called k next found.1 found.2 (omega arith)) (record {
                matched = left.matched.1;
                suited = each_read t.wants k next n r is found.1 (λ i o xs. IsSuited o (grant_at s.grants i) xs) found.2
                    (suited_next want grant n r rest suited) (λ i ne. left.suited i);
                shakes = streams refl later sent.1 (subst (IsAnswered taken) (sym (append-nil way)) told);
                ends = left.ends;
              });
        })
    packet_first (Finished ∷ is) stage later told left sent =
        at_stage (λ u. First places s taken u way Finished is) t Packets stage (record {
          whole = refl;
          reads = refl;
          hears = λ linked. absurd linked;
          after = ended_heard places s taken (heard End (record t { stage = Packets })) endings.End way is tt called
              left.ends.0 told;
        })
    packet_first (i ∷ is) stage later told left sent = absurd sent.0

    by_shakes : (items : List Item) → Left places s taken t way items → Shakes t s.phase taken way items
        → FirstOf items
    by_shakes items left (asks r asked asking none) = subst FirstOf (sym none) tt
    by_shakes items left (has i at told one) = subst FirstOf (sym one)
        (reply_first i at told (λ k. subst (λ is. IsSuited (next_at t.wants k) (grant_at s.grants k) (of_place k is))
        one (left.suited k)))
    by_shakes items left (streams stage later sent told) = packet_first items stage later told left sent

  pub first_heard : (way : List ℕ) (t : Talk) (i : Item) (is : List Item) → Heard places s taken t way (i ∷ is)
      → First places s taken t way i is
  first_heard way t i is h = elim (linked_or t.stage) [
    | inl on ↦ by_shakes way t h.called (i ∷ is) (h.left on) (h.left on).shakes
    | inr over ↦ absurd (let bad : i ∷ is ≡ [] = (h.over over).0 in cc bad)
  ]

  none_whole : (way : List ℕ) (t : Talk) (items : List Item) (p : ℕ) → IsRest t.stage (take p (way_bytes items))
      → Heard places s taken t way items → Outcome places s taken way t [] items p
  none_whole way t items p rest h = record {
    are = tt;
    same = (refl, λ f g. refl);
    is_begun = rest;
    heard = λ f g same. subst (λ b. Heard places s taken t b items) (sym same) h;
  }

  pub outcome : (items : List Item) (way : List ℕ) (t : Talk) (d : ℕ) → Heard places s taken t way items
      → Outcome places s taken way t (wholes d items) (undelivered d items) (part d items)
  outcome [] way t d h = none_whole way t [] 0 (λ _. begun_none t.stage) h
  outcome (i ∷ is) way t d h =
      let first : First places s taken t way i is = first_heard way t i is h in
      let x : Talk × Event = on_item t.stage i t in
      let e : ℕ = d - length (item_bytes i) in
      whole_or i is d (λ ws bs p. Outcome places s taken way t ws bs p)
      (λ fits.
      let more = outcome is (way ++ written x.1) x.0 e first.after in
      record {
        are = (
          first.whole,
          subst (λ (y : Talk × Event). AreBrought y.0 (map brought_of (wholes e is))) (sym first.reads) more.are,
        );
        same = same_more t i (wholes e is) first.reads more.same;
        is_begun = more.is_begun;
        heard = λ f g same. more.heard f (with_event f x.1 g) (said f x.1 g ∙ ap (λ b. b ++ written x.1) same);
      })
      (λ lt. none_whole way t (i ∷ is) d (λ _. part_begun t.stage i is d first.whole lt) h)
