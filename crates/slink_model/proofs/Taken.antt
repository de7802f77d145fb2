-- A link after each piece that the client takes.
use Rattle.std.proofs.lemmas.List.Quantifiers.{position-Some}
use Rattle.std.proofs.lemmas.Option.{slice_get-get_or}
use Rattle.slink_model.proofs.Stations.{each_read, each_want}
use Rattle.std.proofs.Common.{◌≡◌, ◌≢◌, ℕ, ◌+◌, ◌%◌, ◌^◌, ◌<◌, refl, sym, ap, subst, ◌∙◌}
use Rattle.std.proofs.Common.{arith, true, false, List, [], ◌∷◌, ◌++◌, append_assoc, length, length-set}
use Rattle.std.proofs.Common.{get_or, Option, Some, None, slice_get, unwrap_or}
use Rattle.slink_wire.specs.Place.{Bears, Fields}
use Rattle.slink_wire.proofs.Carrying.{one_place, passes_carries}
use Rattle.slink_feed.specs.declared.dialogue.Event.{Event}
use Rattle.slink_feed.specs.declared.dialogue.Event.TheVariants as events
use Rattle.slink_feed.specs.declared.dialogue.Wanted.{Wanted}
use Rattle.slink_feed.specs.declared.grant.Grant.{Grant}
use Rattle.slink_feed.specs.Dialogue.{Wants, place_of, is_of_wanted, next_at, want_at, with_next}
use Rattle.slink_feed.specs.Listening.{Brings, IsLinked, Listening}
use Rattle.slink_feed.specs.Session.{State, grant_at}
use Rattle.slink_feed.proofs.Reporting.{kept_event}
use Rattle.slink_model.specs.Ties.{AreOfPlace, Besides, Carried, Holds, IsOfPlace, IsOnWay, Item, LinkTies}
use Rattle.slink_model.specs.Ties.{Outcome, Places, Reported, ends, of_place, says, takes, reported_of}
use Rattle.slink_model.specs.Ties.{waits, way_bytes}
use Rattle.slink_model.specs.World.{Differ, Reads, Lists, Numbers, Taking, none_read, noted, number_at, or_else}
use Rattle.slink_model.specs.World.{piece_read, piece_lost, with_first, with_one}
use Rattle.slink_model.proofs.Items.{carried_here}
use Rattle.slink_feed.proofs.Items.{put_here, put_there, set_here, set_there}
use Rattle.slink_model.proofs.Outcomes.{outcome}
use Rattle.slink_model.proofs.Following.{delivered, way_started}
use Rattle.std.proofs.lemmas.Option.{same_Some, slice_get_within}

pub matched_is : (r : List ℕ) (o : Option Wanted) → is_of_wanted r o ≡ true
    → (w : Wanted) × (o ≡ Some w) × Bears r w.place
matched_is r None h = absurd (let bad : false ≡ true = h in cc bad)
matched_is r (Some w) h = (w, refl, passes_carries w.place r h)

-- the station that carries a record
place_is : (wants : Wants) (r : List ℕ) (j : ℕ) → place_of wants r ≡ Some j
    → (w : Wanted) × (slice_get wants j ≡ Some (Some w)) × Bears r w.place
place_is wants r j h =
    let at = position-Some (is_of_wanted r) wants j None h in
    let is = matched_is r (get_or wants j None) at.1 in
    (is.0, slice_get-get_or wants j None at.0 ∙ ap (λ o. Some o) is.1, is.2)

pub same_client : (f : Numbers) (e : Event) (t : Taking) → (noted f e t).client ≡ t.client
same_client f events.None t = refl
same_client f event t = refl

-- what is held once this is reported
abbrev Now : Numbers → Option Reported → Lists → Numbers → Lists × Numbers
Now f None held start = (held, start)
Now f (Some a) held start = (with_one held a.index a.bytes, with_first start a.index (number_at f a.index))

noted_now : (f : Numbers) (e : Event) (t : Taking)
    → ((noted f e t).held, (noted f e t).start) ≡ Now f (reported_of e) t.held t.start
noted_now f (events.Record k n r) t = refl
noted_now f event t = refl

-- what is on its way of a station is granted
way_first : (few : ℕ → Type 0) (first : ℕ) (F held : List (List ℕ)) (start sent : Option ℕ) (grant : Option Grant)
    (n : ℕ) (r : List ℕ) (rest : List (ℕ × List ℕ)) → IsOnWay few first F held start sent grant ((n, r) ∷ rest)
    → (g : Grant) × (grant ≡ Some g)
way_first few first F held start sent None n r rest w = absurd (omega (arith, ap length w))
way_first few first F held start sent (Some g) n r rest w = (g, refl)

module _ (places : Places) (first : ℕ) (pushed : Lists) (state : State) (first_sent : Numbers)
    (differ : Differ places) where
  abbrev pub few : ℕ → ℕ → Type 0
  few k x = first + length (get_or pushed k []) < x + 2 ^ 24

  -- what the client has come to, with these bytes on their way to it
  pub record ClientTies (client : Listening) (held : Lists) (start : Numbers) (way : List ℕ) : Type 0 where
    pub beside : Besides places first pushed client.talk.wants client.talk.holes held start
    pub link : LinkTies places first few pushed client held start state first_sent way

  -- nothing is reported, and what is wanted stays
  quiet_ties : (client new : Listening) (held : Lists) (start : Numbers) (way left : List ℕ)
      → new.talk.wants ≡ client.talk.wants → new.talk.holes ≡ client.talk.holes → ClientTies client held start way
      → (l : List Item) → AreOfPlace places l → (IsLinked new.talk.stage → new.kept ++ left ≡ way_bytes l)
      → (t : LinkTies places first few pushed client held start state first_sent way)
      → ((k : ℕ) → of_place k l ≡ of_place k t.items)
      → ClientTies new held start left
  quiet_ties client new held start way left wants holes c l are flow t of = record {
    beside = rw (wants, holes) c.beside;
    link = record {
      items = l;
      matched = are;
      flow = flow;
      before = λ still k. (of k ∙ (t.before still k).0, (t.before still k).1);
      places_are = λ k lt. subst (IsOnWay (few k) first (get_or pushed k []) (get_or held k []) (number_at start k)
          (number_at first_sent k) (grant_at state.grants k)) (sym (of k)) (t.places_are k lt);
      room = t.room;
    };
  }

  -- what is held of a station once a record of one is, and the number of the first
  held_here : (held : Lists) (start : Numbers) (j : ℕ) (r : List ℕ) (Q : List (List ℕ) → Option ℕ → Type 0)
      → j < length held → j < length start
      → Q (get_or held j [] ++ r ∷ []) (or_else (number_at start j) (number_at first_sent j))
      → Q (get_or (with_one held j r) j []) (number_at (with_first start j (number_at first_sent j)) j)
  held_here held start j r Q a b q = rw (
    put_here start j (or_else (number_at start j) (number_at first_sent j)) None b,
    set_here held j (get_or held j [] ++ r ∷ []) [] a,
  ) q

  held_there : (held : Lists) (start : Numbers) (j i : ℕ) (r : List ℕ) (Q : List (List ℕ) → Option ℕ → Type 0) → i ≢ j
      → Q (get_or held i []) (number_at start i)
      → Q (get_or (with_one held j r) i []) (number_at (with_first start j (number_at first_sent j)) i)
  held_there held start j i r Q ne q = rw (
    put_there start j i (or_else (number_at start j) (number_at first_sent j)) None ne,
    set_there held j i (get_or held j [] ++ r ∷ []) [] ne,
  ) q

  taken_at : (client new : Listening) (held : Lists) (start : Numbers) (way left : List ℕ) (j n : ℕ) (r : List ℕ)
      (rest : List Item) (w : Wanted) (p : Fields × Option ℕ) (g : Grant) → (c : ClientTies client held start way)
      → c.link.items ≡ Carried j n r ∷ rest → left ≡ way_bytes rest → j < length places → slice_get places j ≡ Some p
      → w.place ≡ p.0 → slice_get client.talk.wants j ≡ Some (Some w) → grant_at state.grants j ≡ Some g
      → ((x : ℕ) → next_at client.talk.wants j ≡ Some x → n % 2 ^ 24 ≡ x)
      → new.talk.wants ≡ with_next client.talk.wants j ((n % 2 ^ 24 + 1) % 2 ^ 24)
      → new.talk.holes ≡ client.talk.holes → new.kept ≡ []
      → ClientTies new (with_one held j r) (with_first start j (number_at first_sent j)) left
  taken_at client new held start way left j n r rest w p g c is flow lt of_p place has grant wanted wants holes none =
      let m : ℕ = (n % 2 ^ 24 + 1) % 2 ^ 24 in
      let want : want_at client.talk.wants j ≡ Some w = ap (λ o. unwrap_or o None) has in
      let held' : Lists = with_one held j r in
      let start' : Numbers = with_first start j (number_at first_sent j) in
      let in_held : j < length held = omega (arith, lt, c.beside.long.0) in
      let in_start : j < length start = omega (arith, lt, c.beside.long.1) in
      let F : List (List ℕ) = get_or pushed j [] in
      let of_all : (i : ℕ) → of_place i c.link.items ≡ of_place i (Carried j n r ∷ rest) = λ i. ap (of_place i) is in
      let of_j = of_all j ∙ ap (λ b. b ++ of_place j rest) (carried_here j n r) in
      let on_way = rw (grant, of_j) at (c.link.places_are j lt) in
      let done = delivered first F (next_at client.talk.wants j) (get_or held j []) (number_at start j)
      (number_at first_sent j) g n r (of_place j rest) wanted (c.beside.holds j lt) on_way in
      let next : Some ((n + 1) % 2 ^ 24) ≡ Some m =
      ap (λ x. Some x) (let e : (n + 1) % 2 ^ 24 ≡ m = omega arith in e) in
      record {
        beside = record {
          wanted = rw wants (λ i x. each_want client.talk.wants j m w (λ i o. o ≡ Some x
              → (p : Fields × Option ℕ) × (slice_get places i ≡ Some p) × (x.place ≡ p.0)) want
              (λ e. let same : x.place ≡ w.place = ap (λ (y : Wanted). y.place) (sym (same_Some _ x e)) in
              (p, of_p, same ∙ place)) (λ i ne. c.beside.wanted i x) i);
          plain = holes ∙ c.beside.plain;
          holds = rw wants (each_read client.talk.wants j m n r rest w (λ i o _. i < length places
              → Holds first (get_or pushed i []) o (get_or held' i []) (number_at start' i)) want
              (λ _. held_here held start j r (Holds first F (Some m)) in_held in_start
              (rw next at done.0))
              (λ i ne below. held_there held start j i r
              (Holds first (get_or pushed i []) (next_at client.talk.wants i))
              ne (c.beside.holds i below)));
          want_first = rw wants (each_read client.talk.wants j m n r rest w
              (λ i o _. (p : Fields × Option ℕ) → slice_get places i ≡ Some p
              → number_at start' i ≡ None → o ≡ p.1) want
              (λ p at unheld. absurd (way_started (few j) first F (get_or held j []) (number_at start j)
              (number_at first_sent j) g (n, r) (of_place j rest) on_way
              (sym (put_here start j (or_else (number_at start j) (number_at first_sent j)) None in_start) ∙ unheld)))
              (λ i ne p at unheld. c.beside.want_first i p at
              (sym (put_there start j i (or_else (number_at start j) (number_at first_sent j)) None ne) ∙ unheld)));
          long = (
            length-set held j (get_or held j [] ++ r ∷ []) ∙ c.beside.long.0,
            length-set start j (or_else (number_at start j) (number_at first_sent j)) ∙ c.beside.long.1,
          );
        };
        link = record {
          items = rest;
          matched = (subst (AreOfPlace places) is c.link.matched).1;
          flow = λ linked. ap (λ k. k ++ left) none ∙ flow;
          before = λ still. each_read client.talk.wants j m n r rest w (λ i _ is. (is ≡ [])
              × (number_at first_sent i ≡ None)) want
              (absurd (omega (arith, ap length (sym of_j ∙ (c.link.before still j).0))))
              (λ i ne. (sym (of_all i) ∙ (c.link.before still i).0, (c.link.before still i).1));
          places_are = each_read client.talk.wants j m n r rest w (λ i _ is. i < length places
              → IsOnWay (few i) first (get_or pushed i []) (get_or held' i []) (number_at start' i)
              (number_at first_sent i) (grant_at state.grants i) is) want
              (λ _. rw grant (held_here held start j r (λ h s. IsOnWay (few j) first F h s (number_at first_sent j)
              (Some g) (of_place j rest)) in_held in_start done.1))
              (λ i ne below. held_there held start j i r (λ h s. IsOnWay (few i) first (get_or pushed i []) h s
              (number_at first_sent i) (grant_at state.grants i) (of_place i (Carried j n r ∷ rest))) ne
              (rw (of_all i) at (c.link.places_are i below)));
          room = c.link.room;
        };
      }

  -- The record of the first packet on the way is held. It is of the station that carries it.
  taken_ties : (client new : Listening) (held : Lists) (start : Numbers) (way left : List ℕ) (k j n : ℕ) (r : List ℕ)
      (rest : List Item) → (c : ClientTies client held start way)
      → c.link.items ≡ Carried k n r ∷ rest → left ≡ way_bytes rest → place_of client.talk.wants r ≡ Some j
      → ((x : ℕ) → next_at client.talk.wants j ≡ Some x → n % 2 ^ 24 ≡ x)
      → new.talk.wants ≡ with_next client.talk.wants j ((n % 2 ^ 24 + 1) % 2 ^ 24)
      → new.talk.holes ≡ client.talk.holes → new.kept ≡ []
      → ClientTies new (with_one held j r) (with_first start j (number_at first_sent j)) left
  taken_ties client new held start way left k j n r rest c is flow bears wanted wants holes none =
      let of_k : of_place k c.link.items ≡ (n, r) ∷ of_place k rest = ap (of_place k) is
      ∙ ap (λ b. b ++ of_place k rest) (carried_here k n r) in
      let of : IsOfPlace places (Carried k n r) = (subst (AreOfPlace places) is c.link.matched).0 in
      let lt : k < length places = slice_get_within places k of.0 of.1 in
      let top = way_first (few k) first (get_or pushed k []) (get_or held k []) (number_at start k)
      (number_at first_sent k) (grant_at state.grants k) n r (of_place k rest) (rw of_k at (c.link.places_are k lt)) in
      let b = place_is client.talk.wants r j bears in
      let pw = c.beside.wanted j b.0 (ap (λ o. unwrap_or o None) b.1) in
      let same : k ≡ j = differ k j of.0 pw.0 of.1 pw.1 (one_place r of.0.0 pw.0.0 of.3 (subst (Bears r) pw.2 b.2)) in
      taken_at client new held start way left j n r rest b.0 pw.0 top.0 c (is ∙ ap (λ i. Carried i n r ∷ rest) same)
      flow (slice_get_within places j pw.0 pw.1) pw.1 pw.2 b.1
      (subst (λ i. grant_at state.grants i ≡ Some top.0) same top.1) wanted wants holes none

  -- once this is reported
  abbrev TiesNow : Listening → Lists → Numbers → List ℕ → Option Reported → Type 0
  TiesNow new held start left o =
      ClientTies new (Now first_sent o held start).0 (Now first_sent o held start).1 left

  outcome_ties : (client new : Listening) (held : Lists) (start : Numbers) (piece left : List ℕ) (e : Event)
      → (c : ClientTies client held start (piece ++ left)) → (client.kept ++ piece) ++ left ≡ way_bytes c.link.items
      → new.talk.holes ≡ client.talk.holes
      → Outcome client.talk.wants c.link.items (client.kept ++ piece) left new e
      → TiesNow new held start left (reported_of e)
  outcome_ties client new held start piece left e c flow holes (waits wants kept quiet) =
      subst (TiesNow new held start left) (sym quiet)
      (quiet_ties client new held start (piece ++ left) left wants holes c c.link.items c.link.matched
      (λ l. ap (λ k. k ++ left) kept ∙ flow) c.link (λ k. refl))
  outcome_ties client new held start piece left e c flow holes (says rest is way wants none quiet) =
      subst (TiesNow new held start left) (sym quiet)
      (quiet_ties client new held start (piece ++ left) left wants holes c rest
      (subst (AreOfPlace places) is c.link.matched).1 (λ l. ap (λ k. k ++ left) none ∙ way) c.link
      (λ k. sym (ap (of_place k) is)))
  outcome_ties client new held start piece left e c flow holes (ends ending stage wants none quiet) =
      subst (TiesNow new held start left) (sym quiet)
      (quiet_ties client new held start (piece ++ left) left wants holes c c.link.items c.link.matched
      (λ l. absurd (subst IsLinked stage l)) c.link (λ k. refl))
  outcome_ties client new held start piece left e c flow holes
      (takes k j n r rest is way bears wanted wants none reported) =
      subst (TiesNow new held start left) (sym reported)
      (taken_ties client new held start (piece ++ left) left k j n r rest c is way bears wanted wants holes none)

  -- a piece is taken
  piece_ties : (t : Taking) (now : Listening) (piece left : List ℕ) (e : Event) → IsLinked t.client.talk.stage
      → Brings t.client.talk (t.client.kept ++ piece) now e → ClientTies t.client t.held t.start (piece ++ left)
      → ClientTies (noted first_sent e (record t { client = now })).client
      (noted first_sent e (record t { client = now })).held (noted first_sent e (record t { client = now })).start left
  piece_ties t now piece left e linked brings c =
      let u : Taking = record t { client = now } in
      let flow : (t.client.kept ++ piece) ++ left ≡ way_bytes c.link.items = append_assoc t.client.kept piece left
      ∙ c.link.flow linked in
      subst (λ (x : Listening). ClientTies x (noted first_sent e u).held (noted first_sent e u).start left)
      (sym (same_client first_sent e u))
      (subst (λ (x : Lists × Numbers). ClientTies now x.0 x.1 left) (sym (noted_now first_sent e u))
      (outcome_ties t.client now t.held t.start piece left e c flow
      (kept_event t.client.talk (t.client.kept ++ piece) now e brings)
      (outcome places t.client.talk (t.client.kept ++ piece) left now e c.beside.plain c.link.items c.link.matched flow
      brings)))

  -- all of these bytes are taken, piece by piece
  pub reads_ties : (t : Taking) (bytes : List ℕ) (last : Taking) (left : List ℕ) → Reads first_sent t bytes last
      → ClientTies t.client t.held t.start (bytes ++ left) → ClientTies last.client last.held last.start left
  reads_ties t bytes last left (none_read u) c = c
  reads_ties t bytes last left (piece_read u v now all piece rest e split linked brings more) c =
      reads_ties (noted first_sent e (record u { client = now })) rest v left more
      (piece_ties u now piece (rest ++ left) e linked brings
      (subst (ClientTies u.client u.held u.start) (ap (λ b. b ++ left) split ∙ append_assoc piece rest left) c))
  reads_ties t bytes last left (piece_lost u v all piece rest split over more) c =
      reads_ties u rest v left more (quiet_ties u.client u.client u.held u.start (all ++ left) (rest ++ left) refl
      refl c c.link.items c.link.matched (λ linked. absurd (over linked)) c.link (λ k. refl))
