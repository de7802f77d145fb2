-- A link after each answer of the session, and after each packet that is requested.
use Rattle.slink_model.proofs.Stations.{each_sent}
use Rattle.slink_model.proofs.Sends.{by_sent}
use Rattle.std.proofs.Common.{◌≡◌, ℕ, ◌+◌, ◌-◌, ◌%◌, ◌^◌, ◌<◌, ◌≤◌, inr, refl, sym, ap, subst, ◌∙◌}
use Rattle.std.proofs.Common.{arith, List, [], ◌∷◌, ◌++◌, append-nil, length, length-set}
use Rattle.std.proofs.Common.{get_or, Option, Some, None, option_map, slice_get, codes}
use Rattle.slink_wire.specs.declared.reply.Reply.{Reply}
use Rattle.slink_wire.specs.declared.reply.Reply.TheVariants as replies
use Rattle.slink_wire.specs.Packet.{packet_bytes}
use Rattle.slink_wire.specs.Reply.{reply_bytes}
use Rattle.slink_feed.specs.declared.grant.Grant.{Grant}
use Rattle.slink_feed.specs.declared.session.Phase.{Phase}
use Rattle.slink_feed.specs.declared.session.Phase.TheVariants.{Streaming, Closed}
use Rattle.slink_feed.specs.declared.session.Sent.{Sent}
use Rattle.slink_feed.specs.Listening.{Listening}
use Rattle.slink_feed.specs.Dialogue.{next_at}
use Rattle.slink_feed.specs.Session.{Grants, IsBefore, State, at, grant_at, packet_at, sent}
use Rattle.slink_feed.specs.Session.{sent_bytes}
use Rattle.slink_model.specs.Ties.{AllHold, AreOfPlace, AreShown, Carried, IsOfPlace, Finished, Holds, IsGranted}
use Rattle.slink_model.specs.Ties.{IsNear, IsOnWay}
use Rattle.slink_model.specs.Ties.{Item, Leaves, LinkTies, Places, dropped, given, items_of, of_place, same, way_bytes}
use Rattle.slink_feed.specs.Window.{Shows, Window, oldest_of, record_at}
use Rattle.slink_model.specs.World.{Lists, Numbers, first_after, number_at, or_else}
use Rattle.slink_feed.proofs.Items.{at_number, oldest_is, one_value, put_here, put_there}
use Rattle.slink_model.proofs.Items.{carries_none, flow_more, held_to}
use Rattle.slink_model.proofs.Items.{matched_more, reply_carries, reply_items, reply_matched}
use Rattle.slink_model.proofs.Following.{way_granted, way_sent}

abbrev pub any : ℕ → Type 0
any x = Unit {0}

near_granted : (first p : ℕ) (F : List (List ℕ)) (next : Option ℕ) (held : List (List ℕ)) (start : Option ℕ)
    → first + length F ≤ p + 1000000 → Holds first F next held start → IsNear any p start (length held)
near_granted first p F next held None near h = tt
near_granted first p F next held (Some s) near h = inr (omega (arith, near, held_to first s F next held h), tt)

-- one station, once a command was answered
place_granted : (feed : List Window) (k first : ℕ) (w : Window) (F held : List (List ℕ)) (next start sent : Option ℕ)
    (old new : Option Grant) (rest : List (ℕ × List ℕ)) → slice_get feed k ≡ Some w → Shows w first F
    → w.capacity ≤ 1000000
    → Holds first F next held start → rest ≡ [] → sent ≡ None → IsGranted feed k old new
    → IsOnWay any first F held start sent old rest → IsOnWay any first F held start sent new rest
place_granted feed k first w F held next start sent old new rest here shows room h none unsent (same e) way =
    rw e way
place_granted feed k first w F held next start sent old new rest here shows room h none unsent (dropped e) way =
    rw e none
place_granted feed k first w F held next start sent old new rest here shows room h none unsent (given g v e at lo hi)
    way =
    let one : v ≡ w = one_value (slice_get feed k) v w at here in
    let from : oldest_of w ≤ g.position = subst (λ (x : Window). oldest_of x ≤ g.position) one lo in
    let o : oldest_of w ≡ first + (length F - w.capacity) = oldest_is w first F shows in
    let begins = way_granted any first F held start sent g (omega (arith, from, o))
    (near_granted first g.position F next held start (omega (arith, from, o, room)) h) unsent in
    rw (e, none) begins

module _ (places : Places) (first : ℕ) (windows : List Window) (pushed : Lists) (client : Listening) (held : Lists)
    (start : Numbers) (shown : AreShown places first windows pushed)
    (holds : AllHold places first pushed client.talk.wants held start) where
  abbrev pub Linked : State → Numbers → List ℕ → Type 0
  Linked state first_sent way = LinkTies places first (λ k. any) pushed client held start state first_sent way

  before_answered : (s : State) (first_sent : Numbers) (way : List ℕ) (new : State) (reply : Reply) → IsBefore s.phase
      → ((k : ℕ) → IsGranted windows k (grant_at s.grants k) (grant_at new.grants k)) → Linked s first_sent way
      → Linked new first_sent (way ++ reply_bytes reply)
  before_answered s first_sent way new reply before kept l = record {
    items = l.items ++ items_of reply;
    matched = matched_more places l.items (items_of reply) l.matched (reply_matched places reply);
    flow = λ linked. flow_more client.kept way (reply_bytes reply) l.items (items_of reply) (reply_items reply)
        (l.flow linked);
    before = λ still k. (
      carries_none k l.items (items_of reply) (reply_carries k reply) ∙ (l.before before k).0,
      (l.before before k).1,
    );
    places_are = λ k lt.
        let w = shown k lt in
        let granted = place_granted windows k first w.0 (get_or pushed k []) (get_or held k [])
        (next_at client.talk.wants k) (number_at start k) (number_at first_sent k) (grant_at s.grants k)
        (grant_at new.grants k) (of_place k l.items) w.1 w.2 w.3 (holds k lt) (l.before before k).0
        (l.before before k).1 (kept k) (l.places_are k lt) in
        subst (IsOnWay any first (get_or pushed k []) (get_or held k []) (number_at start k) (number_at first_sent k)
        (grant_at new.grants k)) (sym (carries_none k l.items (items_of reply) (reply_carries k reply))) granted;
    room = l.room;
  }

  -- what is sent carries no record, and the grants stay
  stays_on : (s : State) (first_sent : Numbers) (way : List ℕ) (new : State) (more : List Item) (bytes : List ℕ)
      → ((IsBefore new.phase) → IsBefore s.phase) → new.grants ≡ s.grants → bytes ≡ way_bytes more
      → AreOfPlace places more
      → ((k : ℕ) → of_place k more ≡ []) → Linked s first_sent way
      → Linked new first_sent (way ++ bytes)
  stays_on s first_sent way new more bytes was stay e whole none l = record {
    items = l.items ++ more;
    matched = matched_more places l.items more l.matched whole;
    flow = λ linked. flow_more client.kept way bytes l.items more e (l.flow linked);
    before = λ still k. (carries_none k l.items more (none k) ∙ (l.before (was still) k).0, (l.before (was still) k).1);
    places_are = λ k lt.
        subst (IsOnWay any first (get_or pushed k []) (get_or held k []) (number_at start k) (number_at first_sent k)
        (grant_at new.grants k)) (sym (carries_none k l.items more (none k)))
        (rw (← stay) at (l.places_are k lt));
    room = l.room;
  }

  later_answered : (s : State) (first_sent : Numbers) (way : List ℕ) (new : State) (reply : Reply)
      → new.grants ≡ s.grants → reply ≡ replies.Nothing → ¬ (IsBefore new.phase) → Linked s first_sent way
      → Linked new first_sent (way ++ reply_bytes reply)
  later_answered s first_sent way new reply stay none later l =
      stays_on s first_sent way new [] (reply_bytes reply) (λ b. absurd (later b)) stay (ap reply_bytes none) tt
      (λ k. refl) l

  answered_in_phase : (phase : Phase) (s : State) (first_sent : Numbers) (way : List ℕ) (new : State) (reply : Reply)
      → s.phase ≡ phase → Leaves phase windows s (new, reply) → Linked s first_sent way
      → Linked new first_sent (way ++ reply_bytes reply)
  answered_in_phase Streaming s first_sent way new reply e leaves l =
      later_answered s first_sent way new reply leaves.0 leaves.1 leaves.2 l
  answered_in_phase Closed s first_sent way new reply e leaves l =
      later_answered s first_sent way new reply leaves.0 leaves.1 leaves.2 l
  answered_in_phase phase s first_sent way new reply e leaves l =
      before_answered s first_sent way new reply (subst IsBefore (sym e) tt) leaves l

  -- once a line was answered
  pub answered_link : (s : State) (first_sent : Numbers) (way : List ℕ) (new : State) (reply : Reply)
      → Leaves s.phase windows s (new, reply) → Linked s first_sent way
      → Linked new first_sent (way ++ reply_bytes reply)
  answered_link s first_sent way new reply leaves l = answered_in_phase s.phase s first_sent way new reply refl leaves l

  abbrev Goes : Numbers → Grants → ℕ → List ℕ → State × Sent → Type 0
  Goes first_sent grants k way x = Linked x.0 (first_after first_sent grants k x.1) (way ++ sent_bytes x.1)

  nothing_sent : (s : State) (first_sent : Numbers) (way : List ℕ) (new : State)
      → ((IsBefore new.phase) → IsBefore s.phase) → new.grants ≡ s.grants → Linked s first_sent way
      → Linked new first_sent (way ++ [])
  nothing_sent s first_sent way new was stay l = stays_on s first_sent way new [] [] was stay refl tt (λ k. refl) l

  record_sent : (s : State) (first_sent : Numbers) (way : List ℕ) (k : ℕ) (g : Grant) (w : Window) (r : List ℕ)
      → k < length places → length places ≤ 16 → s.phase ≡ Streaming → grant_at s.grants k ≡ Some g
      → slice_get windows k ≡ Some w → IsOfPlace places (Carried k g.position r) → record_at w g.position ≡ Some r
      → Linked s first_sent way → Goes first_sent s.grants k way (packet_at s k g (Some r))
  record_sent s first_sent way k g w r lt most phase grant here of at l =
      let h : Grant = record { mode = g.mode; position = g.position + 1 } in
      let position : Option ℕ = option_map (λ (x : Grant). x.position) (grant_at s.grants k) in
      let shows = shown k lt in
      let one : shows.0 ≡ w = one_value (slice_get windows k) shows.0 w shows.1 here in
      let record_is = at_number w first (get_or pushed k []) g.position r (rw one at shows.2) at in
      let item : List Item = Carried k g.position r ∷ [] in
      let sent_now : Numbers = first_after first_sent s.grants k (packet_at s k g (Some r)).1 in
      let number_k : number_at sent_now k ≡ or_else (number_at first_sent k) (Some g.position) =
      put_here first_sent k (or_else (number_at first_sent k) position) None (omega (arith, l.room, lt, most))
      ∙ ap (λ (o : Option Grant). or_else (number_at first_sent k) (option_map (λ (x : Grant). x.position) o)) grant in
      record {
        items = l.items ++ item;
        matched = matched_more places l.items item l.matched (of, tt);
        flow = λ linked. flow_more client.kept way (packet_bytes (g.position % 2 ^ 24) r) l.items item
            (sym (append-nil (packet_bytes (g.position % 2 ^ 24) r))) (l.flow linked);
        before = λ still. absurd (subst IsBefore phase still);
        places_are = each_sent s k g r l.items (λ i o is. i < length places → IsOnWay any first (get_or pushed i [])
            (get_or held i []) (number_at start i) (number_at sent_now i) o is) grant
            (λ below. rw number_k (way_sent any first (get_or pushed k []) (get_or held k []) (number_at start k)
            (number_at first_sent k) g h
            (of_place k l.items) r refl record_is (rw grant at (l.places_are k lt))))
            (λ i ne below. rw (put_there first_sent k i (or_else (number_at first_sent k) position) None ne)
            (l.places_are i below));
        room = length-set first_sent k _ ∙ l.room;
      }

  -- once a packet was requested
  pub sent_link : (s : State) (first_sent : Numbers) (way : List ℕ) (k : ℕ) → k < length places → length places ≤ 16
      → ((w : Window) (n : ℕ) (r : List ℕ) → slice_get windows k ≡ Some w → record_at w n ≡ Some r
      → IsOfPlace places (Carried k n r))
      → Linked s first_sent way
      → Linked (sent windows s k).0 (first_after first_sent s.grants k (sent windows s k).1)
      (way ++ sent_bytes (sent windows s k).1)
  sent_link s first_sent way k lt most of l =
      let waits : Linked s first_sent (way ++ []) = nothing_sent s first_sent way s (λ b. b) refl l in
      by_sent windows s k (Goes first_sent s.grants k way) waits waits
      (λ phase. nothing_sent s first_sent way (at Closed s.grants) (λ b. absurd b) refl l)
      (λ phase. stays_on s first_sent way (at Closed s.grants) (Finished ∷ []) (codes "END") (λ b. absurd b) refl refl
      (tt, tt) (λ k. refl) l)
      (λ g w r phase grant here is. record_sent s first_sent way k g w r lt most phase grant here
      (of w g.position r here is) is l)
