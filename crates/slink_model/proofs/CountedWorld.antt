-- The world that the steps of a schedule lead to is the counted one.
use Rattle.slink_model.proofs.Pushed.{Rings, opening_rings, ring_at, ringed, rings_next}
use Rattle.std.proofs.lemmas.List.{length-map}
use Rattle.slink_model.specs.Counted.{with_event, with_events, events_upon}
use Rattle.std.proofs.Common.{take, ◌≡◌, ℕ, ◌-◌, ◌<◌, refl, sym, ap, subst, ◌∙◌, arith, List, []}
use Rattle.std.proofs.Common.{◌∷◌, ◌++◌, length, replicate, Option, Some, None}
use Rattle.std.proofs.Common.{option_map, inl}
use Rattle.slink_wire.specs.Request.{request_bytes, request_line}
use Rattle.slink_feed.specs.declared.dialogue.Event.{Event}
use Rattle.slink_feed.specs.declared.dialogue.Stage.TheVariants.{Station}
use Rattle.slink_feed.specs.declared.session.Phase.TheVariants.{Fresh}
use Rattle.slink_model.specs.declared.world.Setup.{Setup}
use Rattle.slink_model.specs.declared.world.Step.{Step}
use Rattle.slink_model.specs.declared.world.Step.TheVariants.{Append, Connect, ToServer, ToClient, Send, Cut}
use Rattle.slink_model.specs.Counted.{AreCountedLinks, AreStreamed, undelivered, Counted, CountedLink, IsCounted}
use Rattle.slink_model.specs.Counted.{counted_after, counted_opening, counted_step, read_by}
use Rattle.slink_model.specs.Counted.{new_link, news, sent_by, served_by, Gained}
use Rattle.slink_model.specs.Counted.{part}
use Rattle.slink_feed.specs.Dialogue.{Talk, wants_of}
use Rattle.slink_feed.specs.Listening.{Listening, IsLinked}
use Rattle.slink_feed.specs.Session.{State, at, grant_at}
use Rattle.slink_model.specs.Spared.{AreAskable, HaveCodes, IsSpared}
use Rattle.slink_model.specs.Slice.{IsSchedule, IsSound}
use Rattle.slink_model.specs.Ties.{Places, way_bytes}
use Rattle.slink_model.specs.World.{AllHappen, Both, Connects, Differ, Happens, IsRead, IsOf, IsServed, LinkState}
use Rattle.slink_model.specs.World.{Numbers, WorldState, opening, written, sent_on}
use Rattle.slink_model.proofs.CountedRead.{read_counts, now_counted}
use Rattle.slink_model.proofs.CountedSent.{sent_counts}
use Rattle.slink_model.proofs.CountedShape.{AreFacts, AreShaped, step_shaped, streamed_of}
use Rattle.slink_model.proofs.Counting.{kept_part}
use Rattle.slink_model.proofs.Counts.{Counts, served_counts}
use Rattle.slink_model.proofs.Counted.{wide_event}
use Rattle.slink_feed.proofs.Items.{within_is}
use Rattle.slink_model.proofs.Shaking.{AreCalled, asks, asks_place, fields_at, want_of}
use Rattle.slink_model.proofs.Worlds.{opening_alike}
use Rattle.slink_model.proofs.Pushed.{AreOf, each_of}
use Rattle.slink_feed.specs.Serving.{SessionState}
use Rattle.slink_feed.proofs.Fitting.{none_at}
use Rattle.slink_model.proofs.Lined.{begins_asking}
use Rattle.slink_wire.proofs.RequestLines.{station_line}
use Rattle.slink_feed.proofs.Wanting.{short_all}
use Rattle.slink_feed.proofs.Received.{begun_none}
use Rattle.slink_feed.specs.Cutting.{IsBegun}
use Rattle.slink_wire.specs.declared.request.Request.TheVariants as requests

-- a counted world with what a world has beside its link
abbrev pub beside : WorldState → Option CountedLink → Counted
beside w q = record { pushed = w.pushed; talk = w.client.talk; held = w.held; start = w.start; link = q }

-- a world whose client, over a new link, has sent what it sends first
abbrev pub linked_anew : WorldState → SessionState → Talk × Event → WorldState
linked_anew w session x = record w {
  client = record { talk = x.0; kept = [] };
  link = Some (record { session = session; first_sent = replicate 16 None; to_server = written x.1; to_client = [] });
}

-- there stays a list for each station
wide_events : (f : Numbers) (es : List Event) (g : Gained) → length (with_events f es g).held ≡ length g.held
wide_events f [] g = refl
wide_events f (e ∷ es) g = wide_events f es (with_event f e g) ∙ wide_event f e g

wide_read : (n : ℕ) (c : Counted) (q : Option CountedLink) → length (read_by n c q).held ≡ length c.held
wide_read n c None = refl
wide_read n c (Some l) = wide_events l.first_sent (events_upon c.talk (news n l))
    (record { held = c.held; start = c.start; to_server = l.written })

wide_step : (setup : Setup) (c : Counted) (step : Step) → length (counted_step setup c step).held ≡ length c.held
wide_step setup c (ToClient n) = wide_read n c c.link
wide_step setup c step = refl

module _ (setup : Setup) (differ : Differ setup.places.items) (codes_are : HaveCodes setup.places.items) where
  abbrev pub places : Places
  places = setup.places.items

  -- how a client stands
  pub record Stands (client : Listening) : Type 0 where
    pub called : AreCalled places client.talk.wants
    pub spared : IsSpared client.talk.stage
    pub keeps : IsBegun client.talk.stage client.kept

  pub data AreCounts (client : Listening) : Option CountedLink → Option LinkState → Type 0 where
    no_link : AreCounts client None None
    a_link : (c : CountedLink) (l : LinkState) → Counts places client c l → AreCounts client (Some c) (Some l)

  -- the counted world of a world
  pub record IsWorld (c : Counted) (w : WorldState) : Type 0 where
    pub is : c ≡ beside w c.link
    pub stands : Stands w.client
    pub counts : AreCounts w.client c.link w.link

  pub link_at : (client : Listening) (q : Option CountedLink) (l : LinkState) → AreCounts client q (Some l)
      → (c : CountedLink) × (q ≡ Some c) × Counts places client c l
  link_at client q l (a_link c m k) = (c, refl, k)

  -- Connect
  connect_world : (w v : WorldState) (q : Option CountedLink) → 0 < length places → Connects w v
      → Stands w.client → IsWorld (counted_step setup (beside w q) Connect) v
  connect_world w v q some c t =
      let talk : Talk = w.client.talk in
      let p = within_is places 0 some in
      let first = want_of places talk.wants t.called 0 p.0 p.1 in
      let fields = fields_at places talk.wants codes_are t.called 0 first.0 first.1 in
      let state : c.session.state ≡ at Fresh (replicate 16 None) = c.is_new.state in
      let bytes : List ℕ = request_bytes (requests.Station first.0.place) in
      let none : Numbers = replicate 16 None in
      let link : LinkState = record { session = c.session; first_sent = none; to_server = bytes; to_client = [] } in
      rw (c.becomes, first.1) (record {
        is = refl;
        stands = record { called = t.called; spared = tt; keeps = begun_none (Station 0) };
        counts = a_link (new_link bytes) link (record {
          session = state;
          first_sent = refl;
          to_server = refl;
          to_client = refl;
          taken_few = omega arith;
          delivered_few = omega arith;
          held = c.is_new.held;
          linked = λ _. record {
            flow = refl;
            left = record {
              matched = tt;
              suited = λ k. rw (ap (λ (s : State). grant_at s.grants k) state ∙ none_at 16 k) refl;
              shakes = asks (requests.Station first.0.place)
                  (asks_place 0 first.0 refl first.1 (inl (refl, ap (λ (s : State). s.phase) state)))
                  (begins_asking (request_line (requests.Station first.0.place))
                  (station_line first.0.place fields.0 fields.1)) refl;
              ends = tt;
            };
          };
          quiet = λ over. absurd (over tt);
        });
      })

  -- ToServer
  served_links : (w : WorldState) (n : ℕ) (q : Option CountedLink) (o p : Option LinkState)
      → Rings setup w → Stands w.client
      → AreCounts w.client q o → Both (IsServed w.windows n) o p
      → AreCounts w.client (option_map (served_by w.windows w.client.talk n) q) p
  served_links w n q o None r t no_link s = no_link
  served_links w n q o (Some m) r t no_link s = absurd s
  served_links w n q o None r t (a_link c l counts) s = absurd s
  served_links w n q o (Some m) r t (a_link c l counts) s =
      a_link _ _ (served_counts places differ codes_are w.client t.called w.windows (ringed setup w r) n l m s c counts)

  -- Send
  sent_links : (w : WorldState) (k : ℕ) (q : Option CountedLink) (o : Option LinkState)
      → Rings setup w → Stands w.client
      → AreCounts w.client q o
      → AreCounts w.client (option_map (sent_by w.windows k) q) (option_map (sent_on w.windows k) o)
  sent_links w k q o r t no_link = no_link
  sent_links w k q o r t (a_link c l counts) =
      a_link _ _ (sent_counts places w.client w.windows (ringed setup w r) l c counts k)

  -- ToClient
  read_world : (w v : WorldState) (n : ℕ) (q : Option CountedLink) (o p : Option LinkState)
      → Stands w.client → v.pushed ≡ w.pushed → w.link ≡ o
      → v.link ≡ p → Both (IsRead n w v) o p → (w.link ≡ None → v ≡ w)
      → AreCounts w.client q o → IsWorld (read_by n (beside w q) q) v
  read_world w v n q o p t pushed was now h unlinked no_link =
      subst (IsWorld (beside w None)) (sym (unlinked was))
      (record { is = refl; stands = t; counts = subst (AreCounts w.client None) (sym was) no_link })
  read_world w v n q o None t pushed was now h unlinked (a_link c l counts) = absurd h
  read_world w v n q o (Some m) t pushed was now h unlinked (a_link c l counts) =
      let r = read_counts places differ codes_are w v n l m c counts h t.keeps t.called t.spared in
      record {
        is = rw (pushed, r.talk, r.held, r.start) refl;
        stands = record { called = r.called; spared = r.spared; keeps = r.keeps };
        counts = rw now (a_link (now_counted w n c) m r.counts);
      }

  step_world : (w v : WorldState) (step : Step) (q : Option CountedLink) → 0 < length places → IsOf places step
      → Happens w step v → Rings setup w → Stands w.client → AreCounts w.client q w.link
      → IsWorld (counted_step setup (beside w q) step) v
  step_world w v (Append k b) q some of h r t counts =
      rw (h, ring_at setup w k of.0 r.shown of.1) (record { is = refl; stands = t; counts = counts })
  step_world w v Connect q some of h r t counts = connect_world w v q some h t
  step_world w v (ToServer n) q some of h r t counts =
      let links = served_links w n q w.link v.link r t counts h.1 in
      rw h.0 (record { is = refl; stands = t; counts = rw (← r.shown.windows) links })
  step_world w v (ToClient n) q some of h r t counts =
      read_world w v n q w.link v.link t h.pushed refl refl h.link h.unlinked counts
  step_world w v (Send k) q some of h r t counts =
      let links = sent_links w k q w.link r t counts in
      rw h (record { is = refl; stands = t; counts = rw (← r.shown.windows) links })
  step_world w v Cut q some of h r t counts =
      subst (IsWorld (counted_step setup (beside w q) Cut)) (sym h) (record { is = refl; stands = t; counts = no_link })

  pub next_world : (w v : WorldState) (c : Counted) (step : Step) → 0 < length places → IsOf places step
      → Happens w step v → Rings setup w → IsWorld c w → IsWorld (counted_step setup c step) v
  next_world w v c step some of h r i =
      rw i.is (step_world w v step c.link some of h r i.stands i.counts)

  -- what is known of its link
  facts_beside : (client : Listening) (q : Option CountedLink) (o : Option LinkState) → AreCounts client q o
      → AreFacts places client.talk q
  facts_beside client q o no_link = tt
  facts_beside client q o (a_link c l k) = λ linked. record {
    s = l.session.state;
    taken = take c.taken c.written;
    way = l.to_server;
    left = (k.linked linked).left;
    few = k.delivered_few;
  }

  pub facts_of : (c : Counted) (w : WorldState) → IsWorld c w → AreFacts places c.talk c.link
  facts_of c w i = rw i.is (facts_beside w.client c.link w.link i.counts)

  pub called_of : (c : Counted) (w : WorldState) → IsWorld c w → AreCalled places c.talk.wants
  called_of c w i = subst (λ (x : Counted). AreCalled places x.talk.wants) (sym i.is) i.stands.called

  -- at each moment
  pub record IsAt (c : Counted) (w : WorldState) : Type 0 where
    pub rings : Rings setup w
    pub world : IsWorld c w
    pub wide : length c.held ≡ length places
    pub shaped : AreShaped places differ codes_are c

  pub next_at : (w v : WorldState) (c : Counted) (step : Step) → 0 < length places → IsOf places step
      → IsSound step → Happens w step v → IsAt c w → IsAt (counted_step setup c step) v
  next_at w v c step some of sound h a = record {
    rings = rings_next setup w v step of sound h a.rings;
    world = next_world w v c step some of h a.rings a.world;
    wide = wide_step setup c step ∙ a.wide;
    shaped = step_shaped setup differ codes_are c step some (called_of c w a.world) a.wide (facts_of c w a.world)
        a.shaped;
  }

  pub all_at : (steps : List Step) (w v : WorldState) (c : Counted) (run : AllHappen w steps v) → 0 < length places
      → AreOf places steps → IsAt c w → IsAt (counted_after setup c steps) v
  all_at [] w v c run some of a = subst (IsAt c) (sym run) a
  all_at (step ∷ steps) w v c run some of a =
      all_at steps run.0 v (counted_step setup c step) run.2 some of.2
      (next_at w run.0 c step some of.0 of.1 run.1 a)

  -- what is reported of it
  pub kept_counted : (client : Listening) (c : CountedLink) (l : LinkState) → Counts places client c l
      → IsLinked client.talk.stage
      → client.kept ≡ take (part c.delivered c.sent) (way_bytes (undelivered c.delivered c.sent))
  kept_counted client c l k there = kept_part client.kept c.sent c.delivered
      (ap (λ b. client.kept ++ b) (sym k.to_client) ∙ (k.linked there).flow)

  links_counted : (client : Listening) (q : Option CountedLink) (o : Option LinkState) → AreCounts client q o
      → AreCountedLinks client.talk client.kept q o
  links_counted client q o no_link = tt
  links_counted client q o (a_link c l k) = record {
    session = k.session;
    begun = k.held;
    first_sent = k.first_sent;
    to_server = k.to_server;
    to_client = k.to_client;
    kept_is = kept_counted client c l k;
    taken_few = k.taken_few;
    delivered_few = k.delivered_few;
  }

  is_counted : (c : Counted) (w : WorldState) → Rings setup w → IsWorld c w → IsCounted setup c w
  is_counted c w r i = subst (λ (x : Counted). IsCounted setup x w) (sym i.is) (record {
    windows = r.shown.windows;
    pushed = refl;
    talk = refl;
    held = refl;
    start = refl;
    link = links_counted w.client c.link w.link i.counts;
  })

-- before the first step
pub opening_world : (setup : Setup) (steps : List Step) (is : IsSchedule setup steps)
    (askable : AreAskable setup.places.items)
    → IsWorld setup is.differ askable.codes (counted_opening setup) (opening setup)
opening_world setup steps is askable =
    let ps : Places = setup.places.items in
    record {
      is = refl;
      stands = record {
        called = record {
          alike = opening_alike ps (16 - length ps);
          short = short_all ps (wants_of ps) askable.numbers refl;
        };
        spared = tt;
        keeps = refl;
      };
      counts = no_link;
    }

pub opening_at : (setup : Setup) (steps : List Step) (is : IsSchedule setup steps)
    (askable : AreAskable setup.places.items)
    → IsAt setup is.differ askable.codes (counted_opening setup) (opening setup)
opening_at setup steps is askable = record {
  rings = opening_rings setup;
  world = opening_world setup steps is askable;
  wide = length-map setup.places.items (λ _. []);
  shaped = tt;
}

module _ (setup : Setup) (steps : List Step) (now : WorldState) (run : AllHappen (opening setup) steps now)
    (schedule : IsSchedule setup steps) (askable : AreAskable setup.places.items) where
  abbrev after : Counted
  after = counted_after setup (counted_opening setup) steps

  pub at_after : IsAt setup schedule.differ askable.codes after now
  at_after = all_at setup schedule.differ askable.codes steps (opening setup) now (counted_opening setup) run
      askable.some (each_of setup.places.items steps schedule.of_places schedule.sound)
      (opening_at setup steps schedule askable)

  -- After any steps the world is the counted one.
  pub the_counted_world : IsCounted setup after now
  the_counted_world = is_counted setup schedule.differ askable.codes after now at_after.rings at_after.world

  -- After any steps the client was informed of no gap, and of nothing that it can't read.
  pub client_spared : IsSpared now.client.talk.stage
  client_spared = at_after.world.stands.spared

  -- Packets follow two replies to each station.
  pub counted_streamed : AreStreamed (length setup.places.items) after.talk after.link
  counted_streamed = streamed_of setup.places.items schedule.differ askable.codes after
      (facts_of setup schedule.differ askable.codes after now at_after.world) at_after.shaped
