-- Each step keeps a world tied to all records that were pushed.
use Rattle.slink_model.proofs.Pushed.{each_more}
use Rattle.slink_model.proofs.Pushed.{AreOf, IsShown, Rings, are_shown, each_of, nothing_at, opening_rings, ring_at}
use Rattle.slink_model.proofs.Pushed.{rings_next}
use Rattle.std.proofs.Common.{◌≡◌, All, ℕ, ◌+◌, ◌-◌, ◌^◌, ◌<◌, ◌≤◌, zero, suc, refl, sym, ap, subst}
use Rattle.std.proofs.Common.{◌∙◌, arith, List, [], ◌∷◌, ◌++◌, length, get_or, take, drop}
use Rattle.std.proofs.Common.{take-append-drop, map, replicate, Option, Some, None, option_map, slice_get}
use Rattle.std.proofs.lemmas.List.{get_or_default, length-map}
use Rattle.std.proofs.lemmas.Option.{slice_get_within}
use Rattle.slink_wire.specs.Place.{Fields}
use Rattle.slink_feed.specs.declared.dialogue.Wanted.{Wanted}
use Rattle.slink_model.specs.declared.world.Setup.{Setup}
use Rattle.slink_model.specs.declared.world.Step.{Step}
use Rattle.slink_model.specs.declared.world.Step.TheVariants.{Append, Connect, ToServer, ToClient, Send, Cut}
use Rattle.slink_feed.specs.Dialogue.{next_at, want_at, wanted_of, wants_of}
use Rattle.slink_feed.specs.Listening.{Listening}
use Rattle.slink_feed.specs.Session.{Grants, State, grant_at, sent_in}
use Rattle.slink_model.specs.Slice.{HoldsSlices, IsSchedule, IsSound, LackFew, LacksFew}
use Rattle.slink_model.specs.Ties.{Besides}
use Rattle.slink_feed.specs.Dialogue.{to_place}
use Rattle.slink_model.specs.Ties.{Holds, IsLinkTied, IsOnWay}
use Rattle.slink_model.specs.Ties.{LinkTies, Places, WorldTies, of_place}
use Rattle.slink_feed.specs.Running.{HasStream}
use Rattle.slink_feed.specs.Window.{Window}
use Rattle.slink_model.specs.World.{AllHappen, Both, Connects, Differ, Happens, IsRead, IsOf, IsServed, LinkState}
use Rattle.slink_model.specs.World.{Lists, Numbers, WorldState, number_at, opening, pushed_to, sent_on}
use Rattle.slink_model.specs.World.{taking, with_one}
use Rattle.slink_feed.proofs.Fitting.{none_at}
use Rattle.slink_feed.proofs.Items.{at_number, none_but, one_value}
use Rattle.slink_model.proofs.Requested.{also_at}
use Rattle.std.proofs.Common.{option_map}
use Rattle.slink_feed.proofs.Items.{within_is}
use Rattle.slink_model.proofs.Linked.{any, sent_link}
use Rattle.slink_model.proofs.Served.{serves_link}
use Rattle.slink_model.proofs.Following.{holds_pushed, way_as, way_pushed}
use Rattle.slink_model.proofs.Taken.{ClientTies, reads_ties}

module _ (setup : Setup) (room : setup.capacity ≤ 1000000) where
  abbrev places : Places
  places = setup.places.items

  abbrev first : ℕ
  first = setup.first

  abbrev Tied : WorldState → Option LinkState → Type 0
  Tied w o = IsLinkTied places first w.pushed w.client w.held w.start o

  -- Append
  pushed_link : (w : WorldState) (k : ℕ) (b : List ℕ) (o : Option LinkState) → k < length w.pushed → Tied w o
      → IsLinkTied places first (with_one w.pushed k b) w.client w.held w.start o
  pushed_link w k b None lt l = tt
  pushed_link w k b (Some l) lt t = (
    t.0,
    record {
      items = t.1.items;
      matched = t.1.matched;
      flow = t.1.flow;
      before = t.1.before;
      places_are = λ i below. each_more w.pushed k b i
          (λ F. IsOnWay any first F (get_or w.held i []) (number_at w.start i) (number_at l.first_sent i)
          (grant_at l.session.state.grants i) (of_place i t.1.items)) lt (t.1.places_are i below)
          (way_pushed any first (get_or w.pushed i []) (get_or w.held i []) (number_at w.start i)
          (number_at l.first_sent i) (grant_at l.session.state.grants i) (of_place i t.1.items) b);
      room = t.1.room;
    },
  )

  append_ties : (w : WorldState) (k : ℕ) (b : List ℕ) → IsOf places (Append k b) → IsShown setup w
      → WorldTies places first w → WorldTies places first (pushed_to w k b (slice_get w.windows k))
  append_ties w k b of s t =
      let inside : k < length w.pushed = omega (arith, slice_get_within places k of.0 of.1, s.long) in
      subst (λ (o : Option Window). WorldTies places first (pushed_to w k b o)) (sym (ring_at setup w k of.0 s of.1))
      (record {
        beside = record {
          wanted = t.beside.wanted;
          plain = t.beside.plain;
          holds = λ i below. each_more w.pushed k b i
              (λ F. Holds first F (next_at w.client.talk.wants i) (get_or w.held i []) (number_at w.start i)) inside
              (t.beside.holds i below)
              (holds_pushed first (get_or w.pushed i []) (next_at w.client.talk.wants i) (get_or w.held i [])
              (number_at w.start i) b);
          want_first = t.beside.want_first;
          long = t.beside.long;
        };
        link = pushed_link w k b w.link inside t.link;
      })

  -- Connect
  beside_placed : (w : WorldState) (o : Option Wanted) (k : ℕ)
      → Besides places first w.pushed w.client.talk.wants w.client.talk.holes w.held w.start
      → Besides places first w.pushed (to_place o k w.client.talk).0.wants (to_place o k w.client.talk).0.holes w.held
      w.start
  beside_placed w None k b = b
  beside_placed w (Some x) k b = b

  connect_ties : (w v : WorldState) → Connects w v → WorldTies places first w → WorldTies places first v
  connect_ties w v c t =
      let grants : c.session.state.grants ≡ replicate 16 None = ap (λ (s : State). s.grants) c.is_new.state in
      subst (WorldTies places first) (sym c.becomes) (record {
        beside = beside_placed w (want_at w.client.talk.wants 0) 0 t.beside;
        link = (
          ([], λ _. c.is_new.held),
          record {
            items = [];
            matched = tt;
            flow = λ _. refl;
            before = λ _ k. (refl, none_but 16 k None);
            places_are = λ k lt. rw (ap (λ (gs : Grants). grant_at gs k) grants ∙ none_at 16 k) refl;
            room = refl;
          },
        );
      })

  -- ToServer
  served_tied : (w : WorldState) (n : ℕ) (o p : Option LinkState) → IsShown setup w → WorldTies places first w
      → Tied w o → Both (IsServed w.windows n) o p → Tied w p
  served_tied w n None None z t l s = tt
  served_tied w n None (Some m) z t l s = absurd s
  served_tied w n (Some l) None z t tied s = absurd s
  served_tied w n (Some l) (Some m) z t tied s =
      let done = serves_link places first w.windows w.pushed w.client w.held w.start (are_shown setup w room z)
      t.beside.holds l.first_sent l.session (take n l.to_server)
      l.to_client m.session m.to_client s.serves tied.0 tied.1 in (
        done.0,
        rw (← s.first_sent) at done.1,
      )

  -- Send
  sent_tied : (w : WorldState) (k : ℕ) (o : Option LinkState) → length places ≤ 16 → k < length places
      → Rings setup w → WorldTies places first w → Tied w o → Tied w (option_map (sent_on w.windows k) o)
  sent_tied w k None most lt z t l = tt
  sent_tied w k (Some l) most lt z t tied =
      let q : (p : Fields × Option ℕ) × (slice_get places k ≡ Some p) = within_is places k lt in
      let ring = are_shown setup w room z.shown k lt in (
        (tied.0.0, λ over. tied.0.1 (λ e. over (ap (λ ph. (sent_in ph w.windows l.session.state k).0.phase) e ∙ e))),
        sent_link places first w.windows w.pushed w.client w.held w.start (are_shown setup w room z.shown)
            t.beside.holds l.session.state l.first_sent l.to_client k lt most
            (λ v n r here found. let one : ring.0 ≡ v = one_value (slice_get w.windows k) ring.0 v ring.1 here in
            let sound = z.sound k q.0 q.1 (n - first) r
            (at_number v first (get_or w.pushed k []) n r (rw one at ring.2) found) in
            (q.0, q.1, sound.0, sound.1)) tied.1,
      )

  -- ToClient
  link_as : (few more : ℕ → ℕ → Type 0) (pushed : Lists) (client : Listening) (held : Lists) (start : Numbers)
      (state : State) (sent : Numbers) (way : List ℕ)
      → ((k s : ℕ) → number_at start k ≡ Some s → more k (s + length (get_or held k [])))
      → LinkTies places first few pushed client held start state sent way
      → LinkTies places first more pushed client held start state sent way
  link_as few more pushed client held start state sent way on l = record {
    items = l.items;
    matched = l.matched;
    flow = l.flow;
    before = l.before;
    places_are = λ k lt. way_as (few k) (more k) first (get_or pushed k []) (get_or held k []) (number_at start k)
        (number_at sent k) (grant_at state.grants k) (of_place k l.items) (on k) (l.places_are k lt);
    room = l.room;
  }

  read_ties : (w v : WorldState) (n : ℕ) (l m : LinkState) → Differ places → LacksFew first w → v.windows ≡ w.windows
      → v.pushed ≡ w.pushed → v.link ≡ Some m → IsRead n w v l m → Rings setup w → WorldTies places first w
      → Tied w (Some l) → WorldTies places first v
  read_ties w v n l m differ lacks windows pushed link s z t tied =
      let all : l.to_client ≡ take n l.to_client ++ drop n l.to_client = sym (take-append-drop n l.to_client) in
      let c : ClientTies places first w.pushed l.session.state l.first_sent differ w.client w.held w.start
      (take n l.to_client ++ drop n l.to_client) = record {
        beside = t.beside;
        link = link_as (λ k. any) (λ k x. first + length (get_or w.pushed k []) < x + 2 ^ 24) w.pushed w.client w.held
            w.start l.session.state l.first_sent (take n l.to_client ++ drop n l.to_client) (λ k s e. lacks k s e)
            (subst (LinkTies places first (λ k. any) w.pushed w.client w.held w.start l.session.state l.first_sent) all
            tied.1);
      } in
      let d = reads_ties places first w.pushed l.session.state l.first_sent differ (taking w l) (take n l.to_client)
      (taking v m) (drop n l.to_client) s.reads c in
      let now = link_as (λ k x. first + length (get_or w.pushed k []) < x + 2 ^ 24) (λ k. any) w.pushed v.client v.held
      v.start l.session.state l.first_sent (drop n l.to_client) (λ k s e. tt) d.link in
      record {
        beside = rw pushed d.beside;
        link = subst (Tied v) (sym link)
            (subst HasStream (sym s.session) tied.0, rw (pushed, s.session, s.first_sent, s.left) now);
      }

  delivered_ties : (w v : WorldState) (n : ℕ) (o p : Option LinkState) → Differ places → LacksFew first w
      → v.windows ≡ w.windows → v.pushed ≡ w.pushed → w.link ≡ o → v.link ≡ p → Both (IsRead n w v) o p
      → (w.link ≡ None → v ≡ w) → Rings setup w → WorldTies places first w → WorldTies places first v
  delivered_ties w v n None None differ lacks windows pushed was is s unlinked z t =
      subst (WorldTies places first) (sym (unlinked was)) t
  delivered_ties w v n None (Some m) differ lacks windows pushed was is s unlinked z t = absurd s
  delivered_ties w v n (Some l) None differ lacks windows pushed was is s unlinked z t = absurd s
  delivered_ties w v n (Some l) (Some m) differ lacks windows pushed was is s unlinked z t =
      read_ties w v n l m differ lacks windows pushed is s z t (subst (Tied w) was t.link)

  pub step_ties : (w v : WorldState) (step : Step) → length places ≤ 16 → Differ places → IsOf places step
      → LacksFew first w → Happens w step v → Rings setup w → WorldTies places first w
      → WorldTies places first v
  step_ties w v (Append k b) most differ of lacks h z t =
      subst (WorldTies places first) (sym h) (append_ties w k b of z.shown t)
  step_ties w v Connect most differ of lacks h z t = connect_ties w v h t
  step_ties w v (ToServer n) most differ of lacks h z t =
      subst (WorldTies places first) (sym h.0)
      (record { beside = t.beside; link = served_tied w n w.link v.link z.shown t t.link h.1 })
  step_ties w v (ToClient n) most differ of lacks h z t =
      delivered_ties w v n w.link v.link differ lacks h.windows h.pushed refl refl h.link h.unlinked z t
  step_ties w v (Send k) most differ of lacks h z t =
      subst (WorldTies places first) (sym h)
      (record { beside = t.beside; link = sent_tied w k w.link most of z t t.link })
  step_ties w v Cut most differ of lacks h z t = subst (WorldTies places first) (sym h)
      (record { beside = t.beside; link = tt })

  pub all_ties : (steps : List Step) (w v : WorldState) (run : AllHappen w steps v) → length places ≤ 16
      → Differ places → AreOf places steps → LackFew first w steps v run → Rings setup w → WorldTies places first w
      → Rings setup v × WorldTies places first v × LacksFew first v
  all_ties [] w v run most differ of lacks z t =
      subst (λ (x : WorldState). Rings setup x × WorldTies places first x × LacksFew first x) (sym run) (z, t, lacks)
  all_ties (step ∷ steps) w v run most differ of lacks z t =
      all_ties steps run.0 v run.2 most differ of.2 lacks.1
      (rings_next setup w run.0 step of.0 of.1 run.1 z) (step_ties w run.0 step most differ of.0 lacks.0 run.1 z t)

pub opening_alike : (ps : Places) (m k : ℕ)
    → option_map (λ (x : Wanted). x.place) (want_at (map wanted_of ps ++ replicate m None) k) ≡ option_map
    (λ (p : Fields × Option ℕ). p.0) (slice_get ps k)
opening_alike [] m k = ap (option_map (λ (x : Wanted). x.place)) (none_but m k None)
opening_alike (p ∷ ps) m zero = refl
opening_alike (p ∷ ps) m (suc k) = opening_alike ps m k

opening_wanted : (ps : Places) (m k : ℕ) (w : Wanted) → want_at (map wanted_of ps ++ replicate m None) k ≡ Some w
    → (p : Fields × Option ℕ) × (slice_get ps k ≡ Some p) × (w.place ≡ p.0)
opening_wanted ps m k w = also_at (λ (x : Wanted). x.place) (λ (p : Fields × Option ℕ). p.0)
    (want_at (map wanted_of ps ++ replicate m None) k) (slice_get ps k) w (opening_alike ps m k)

opening_first : (ps : Places) (m k : ℕ) (p : Fields × Option ℕ) → slice_get ps k ≡ Some p
    → next_at (map wanted_of ps ++ replicate m None) k ≡ p.1
opening_first [] m k p h = absurd (let bad : None ≡ Some p = h in cc bad)
opening_first (q ∷ ps) m zero p h = ap (λ (x : Fields × Option ℕ). x.1) (one_value (Some q) q p refl h)
opening_first (q ∷ ps) m (suc k) p h = opening_first ps m k p h

none_number : (ps : Places) (k : ℕ) → number_at (map (λ _. None) ps) k ≡ None
none_number [] k = refl
none_number (p ∷ ps) zero = refl
none_number (p ∷ ps) (suc k) = none_number ps k

pub opening_ties : (setup : Setup) → WorldTies setup.places.items setup.first (opening setup)
opening_ties setup =
    let ps : Places = setup.places.items in
    let n : ℕ = length ps in
    record {
      beside = record {
        wanted = λ k w h. opening_wanted ps (16 - n) k w h;
        plain = refl;
        holds = λ k lt. subst (λ (o : Option ℕ). Holds setup.first (get_or (map (λ _. []) ps) k [])
            (next_at (wants_of ps) k) (get_or (map (λ _. []) ps) k []) o) (sym (none_number ps k)) (nothing_at ps k);
        want_first = λ k p here unheld. opening_first ps (16 - n) k p here;
        long = (length-map ps (λ _. []), length-map ps (λ _. None));
      };
      link = tt;
    }

-- each record of a schedule has 512 bytes, one after another
pub schedule_is : (setup : Setup) (steps : List Step) → length setup.places.items ≤ 16 → setup.capacity ≤ 1000000
    → Differ setup.places.items → All (IsOf setup.places.items) steps
    → ((k : ℕ) → k < length steps → IsSound (get_or steps k (Append 0 []))) → IsSchedule setup steps
schedule_is setup steps few room differ of sound = record {
  few_places = few;
  capacity = room;
  differ = differ;
  of_places = of;
  sound = λ k d lt. subst IsSound (get_or_default steps k (Append 0 []) d lt) (sound k lt);
}

module _ (setup : Setup) (steps : List Step) (now : WorldState) (run : AllHappen (opening setup) steps now)
    (is : IsSchedule setup steps) (lacks : LackFew setup.first (opening setup) steps now run) where
  pub ties_after : Rings setup now × WorldTies setup.places.items setup.first now × LacksFew setup.first now
  ties_after = all_ties setup is.capacity steps (opening setup) now run is.few_places is.differ
      (each_of setup.places.items steps is.of_places is.sound) lacks (opening_rings setup) (opening_ties setup)

  -- After any steps one slice of its records is held of each station.
  pub slice_held : HoldsSlices setup.places.items setup.first now
  slice_held = record { slice = ties_after.1.beside.holds; wanted = ties_after.1.beside.want_first }
