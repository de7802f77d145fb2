-- The counts of a link once a packet of it was requested.
use Rattle.slink_model.proofs.Stations.{each_sent}
use Rattle.slink_model.proofs.Sends.{by_sent}
use Rattle.std.proofs.Common.{◌≡◌, ℕ, ◌+◌, ◌-◌, ◌%◌, ◌^◌, refl, sym, ap, subst, ◌∙◌, arith, Bool, true}
use Rattle.std.proofs.Common.{false, if◌then◌else◌, List, [], ◌∷◌, ◌++◌, append-nil, length, length-append, take}
use Rattle.std.proofs.Common.{Option, Some, None, slice_get, unwrap_or}
use Rattle.std.proofs.lemmas.List.{drop-append-le}
use Rattle.slink_wire.specs.Packet.{packet_bytes}
use Rattle.slink_wire.specs.Place.{Bears, Fields}
use Rattle.slink_feed.specs.declared.grant.Grant.{Grant}
use Rattle.slink_feed.specs.declared.session.Phase.{Phase}
use Rattle.slink_feed.specs.declared.session.Phase.TheVariants.{Streaming, Closed}
use Rattle.slink_feed.specs.declared.session.Sent.{Sent}
use Rattle.slink_feed.specs.declared.session.Sent.TheVariants as sents
use Rattle.slink_model.specs.Counted.{CountedLink, undelivered, carried_at, items_sent, sent_by}
use Rattle.slink_feed.specs.declared.dialogue.Stage.TheVariants.{Packets}
use Rattle.slink_feed.specs.Dialogue.{next_at}
use Rattle.slink_feed.specs.Listening.{Listening}
use Rattle.slink_feed.specs.Session.{IsBefore, State, at, grant_at, packet_at, sent, sent_bytes}
use Rattle.slink_model.specs.Ties.{AreSound, Item, Carried, Finished, Places, of_place, way_bytes}
use Rattle.slink_feed.specs.Window.{Window, oldest_of, record_at}
use Rattle.slink_model.specs.World.{LinkState, Numbers, first_after, sent_on}
use Rattle.slink_model.proofs.Counting.{more_cut}
use Rattle.slink_model.proofs.Counts.{Counts}
use Rattle.slink_model.proofs.Lined.{IsAnswered}
use Rattle.slink_feed.specs.declared.dialogue.Stage.TheVariants.{Packets}
use Rattle.slink_model.proofs.Items.{matched_more}
use Rattle.slink_model.proofs.Items.{carries_none, flow_more, way_more}
use Rattle.slink_feed.proofs.Items.{one_value}
use Rattle.slink_model.proofs.Requested.{also_at}
use Rattle.slink_model.proofs.Lined.{IsAnswered}
use Rattle.slink_model.specs.Ties.{AreOfPlace}
use Rattle.slink_model.proofs.Shaking.{AreFrom, AreRinged, AreSent, EndsIn, IsSuited, Left, streaming_is}
use Rattle.slink_model.proofs.Shaking.{streams}

sent_more : (xs ys : List Item) → AreSent xs → AreSent ys → AreSent (xs ++ ys)
sent_more [] ys p q = q
sent_more (x ∷ xs) ys p q = (p.0, sent_more xs ys p.1 q)

from_more : (n p : ℕ) (rest : List (ℕ × List ℕ)) (r : List ℕ) → p ≡ n + length rest → AreFrom n rest
    → AreFrom n (rest ++ (p, r) ∷ [])
from_more n p [] r e a = (omega (arith, e), tt)
from_more n p (i ∷ is) r e a = (a.0, from_more (n + 1) p is r (omega (arith, e)) a.1)

suited_more : (want : Option ℕ) (o : Option Grant) (g h : Grant) (rest : List (ℕ × List ℕ)) (r : List ℕ)
    → o ≡ Some g → h.position ≡ g.position + 1 → IsSuited want o rest
    → IsSuited want (Some h) (rest ++ (g.position, r) ∷ [])
suited_more want None g h rest r is next s = absurd (let bad : None ≡ Some g = is in cc bad)
suited_more want (Some f) g h rest r is next s =
    let same : f.position ≡ g.position = ap (λ (x : Grant). x.position) (one_value (Some f) f g refl is) in (
      s.0,
      from_more s.0 g.position rest r (omega (arith, same, s.2)) s.1,
      omega (arith, next, same, s.2, length-append rest ((g.position, r) ∷ [])),
      s.3,
    )

-- a record of the window is one of the ring's
window_sound : (w : Window) (n : ℕ) (r : List ℕ) → AreSound w.place w.records → record_at w n ≡ Some r
    → (length r ≡ 512) × Bears r w.place
window_sound w n r sound is =
    sound (n - oldest_of w) r
    (got (Rattle.std.proofs.Common.nat_lt n (oldest_of w)) (slice_get w.records (n - oldest_of w)) is)
  where
    got : (t : Bool) (o : Option (List ℕ)) → (if t then None else o) ≡ Some r → o ≡ Some r
    got true o h = absurd (let bad : None ≡ Some r = h in cc bad)
    got false o h = h

-- what is sent goes after what was
ends_more : (phase : Phase) (is ys : List Item) → EndsIn Streaming is → EndsIn phase ys → EndsIn phase (is ++ ys)
ends_more phase [] ys h k = k
ends_more phase (Finished ∷ is) ys h k = absurd (let bad : Streaming ≡ Closed = h.1 in cc bad)
ends_more phase (i ∷ is) ys h k = ends_more phase is ys h k

module _ (places : Places) (client : Listening) (feed : List Window) (ringed : AreRinged places feed) (l : LinkState)
    (c : CountedLink) (counts : Counts places client c l) (k : ℕ) where
  abbrev s : State
  s = l.session.state

  abbrev before : List ℕ
  before = take c.taken c.written

  abbrev its : List Item
  its = undelivered c.delivered c.sent

  -- what is sent, with what the session comes to
  record Goes (x : State × Sent) (ys : List Item) : Type 0 where
    bytes : sent_bytes x.1 ≡ way_bytes ys
    left : Left places s before client.talk l.to_server its → Left places x.0 before client.talk l.to_server (its ++ ys)

  abbrev GoesOn : State × Sent → Type 0
  GoesOn x = Goes x (items_sent feed s.grants k x.1)

  nothing_sent : (o : Sent) → sent_bytes o ≡ [] → items_sent feed s.grants k o ≡ [] → GoesOn (s, o)
  nothing_sent o none nothing = record {
    bytes = none ∙ ap way_bytes (sym nothing);
    left = subst (Left places s before client.talk l.to_server)
        (sym (ap (λ ys. its ++ ys) nothing ∙ append-nil its));
  }

  streaming : Left places s before client.talk l.to_server its → s.phase ≡ Streaming
      → (client.talk.stage ≡ Packets) × AreSent its × IsAnswered before l.to_server
  streaming left phase =
      streaming_is client.talk s.phase before l.to_server its (λ b. subst IsBefore phase b) left.shakes

  shut : (o : Sent) (ys : List Item) → s.phase ≡ Streaming → sent_bytes o ≡ way_bytes ys → AreOfPlace places ys
      → AreSent ys → ((i : ℕ) → of_place i ys ≡ []) → EndsIn Closed ys → Goes (at Closed s.grants, o) ys
  shut o ys phase bytes matched sent none ends = record {
    bytes = bytes;
    left = λ left. let now = streaming left phase in record {
      matched = matched_more places its ys left.matched matched;
      suited = λ i. subst (IsSuited (next_at client.talk.wants i) (grant_at s.grants i))
          (sym (carries_none i its ys (none i))) (left.suited i);
      shakes = streams now.0 (λ b. b) (sent_more its ys now.1 sent) now.2;
      ends = ends_more Closed its ys (subst (λ p. EndsIn p its) phase left.ends) ends;
    };
  }

  record_goes : (g : Grant) (w : Window) (r : List ℕ) → s.phase ≡ Streaming → grant_at s.grants k ≡ Some g
      → slice_get feed k ≡ Some w → record_at w g.position ≡ Some r
      → Goes (packet_at s k g (Some r)) (Carried k g.position r ∷ [])
  record_goes g w r phase grant here is =
      let h : Grant = record { mode = g.mode; position = g.position + 1 } in
      let item : List Item = Carried k g.position r ∷ [] in
      let p = also_at (λ (v : Window). v.place) (λ (q : Fields × Option ℕ). q.0) (slice_get feed k) (slice_get places k)
      w (ringed.alike k) here in
      let sound : (length r ≡ 512) × Bears r w.place = window_sound w g.position r (ringed.sound k w here) is in
      record {
        bytes = sym (append-nil (packet_bytes (g.position % 2 ^ 24) r));
        left = λ left. let now = streaming left phase in record {
          matched = matched_more places its item left.matched ((p.0, p.1, sound.0, subst (Bears r) p.2 sound.1), tt);
          suited = each_sent s k g r its (λ i o is. IsSuited (next_at client.talk.wants i) o is) grant
              (suited_more (next_at client.talk.wants k) (grant_at s.grants k) g h (of_place k its) r grant refl
              (left.suited k)) (λ i ne. left.suited i);
          shakes = streams now.0 (λ b. subst IsBefore phase b) (sent_more its item now.1 (tt, tt)) now.2;
          ends = ends_more s.phase its item (subst (λ p. EndsIn p its) phase left.ends) tt;
        };
      }

  -- the packet's item
  item_is : (g : Grant) (w : Window) (r : List ℕ) → grant_at s.grants k ≡ Some g → slice_get feed k ≡ Some w
      → record_at w g.position ≡ Some r
      → carried_at k (grant_at s.grants k) (slice_get feed k) ≡ Carried k g.position r ∷ []
  item_is g w r grant here is = ap (λ (o : Option Grant). carried_at k o (slice_get feed k)) grant
      ∙ (ap (λ (o : Option Window). carried_at k (Some g) o) here
      ∙ ap (λ (o : Option (List ℕ)). Carried k g.position (unwrap_or o []) ∷ []) is)

  abbrev x : State × Sent
  x = sent feed s k

  abbrev ys : List Item
  ys = items_sent feed s.grants k (sent feed s k).1

  pub sent_counts : Counts places client (sent_by feed k c) (sent_on feed k l)
  sent_counts =
      let go : Goes x ys = by_sent feed s k GoesOn (nothing_sent sents.Wait refl refl)
      (nothing_sent sents.Closed refl refl) (λ phase. shut sents.Overrun [] phase refl tt tt (λ i. refl) tt)
      (λ phase. shut sents.Done (Finished ∷ []) phase refl (tt, tt) (tt, tt) (λ i. refl) (refl, refl))
      (λ g w r phase grant here is. subst (Goes (packet_at s k g (Some r))) (sym (item_is g w r grant here is))
      (record_goes g w r phase grant here is)) in
      rw (← counts.session) (record {
        session = refl;
        first_sent = ap (λ (f : Numbers). first_after f s.grants k x.1) counts.first_sent;
        to_server = counts.to_server;
        to_client = rw (counts.to_client, go.bytes, way_more c.sent ys)
            (sym (drop-append-le c.delivered (way_bytes c.sent) (way_bytes ys) counts.delivered_few));
        taken_few = counts.taken_few;
        delivered_few = omega (
          arith,
          counts.delivered_few,
          ap length (way_more c.sent ys),
          length-append (way_bytes c.sent) (way_bytes ys),
        );
        held = counts.held;
        linked = λ there. rw (more_cut c.sent ys c.delivered counts.delivered_few).1 (record {
          flow = flow_more client.kept l.to_client (sent_bytes x.1) its ys go.bytes (counts.linked there).flow;
          left = go.left (counts.linked there).left;
        });
        quiet = counts.quiet;
      })
