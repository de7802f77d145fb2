-- What a client has read over a link: two replies to each station, then packets.
use Rattle.std.proofs.Common.{◌≡◌, ℕ, ◌+◌, ◌-◌, ◌*◌, ◌<◌, ◌≤◌, inl, inr, zero, suc, refl, sym, ap, subst, ◌∙◌, arith}
use Rattle.std.proofs.Common.{Bool, true, false, ◌&&◌, not, List, [], ◌∷◌, ◌++◌, append-nil, append_assoc, length}
use Rattle.std.proofs.Common.{codes, length-append, replicate}
use Rattle.std.proofs.lemmas.Bool.{cases_lt}
use Rattle.std.proofs.Common.{Option, Some, None, option_map}
use Rattle.std.proofs.lemmas.Option.{slice_get_within}
use Rattle.slink_feed.specs.declared.dialogue.Stage.{Stage}
use Rattle.slink_feed.specs.declared.dialogue.Stage.TheVariants.{Station, Number, Packets}
use Rattle.slink_feed.specs.declared.dialogue.Wanted.{Wanted}
use Rattle.slink_feed.specs.declared.session.Phase.{Phase}
use Rattle.slink_model.specs.declared.world.Setup.{Setup}
use Rattle.slink_model.specs.declared.world.Step.{Step}
use Rattle.slink_model.specs.declared.world.Step.TheVariants.{Append, Connect, ToServer, ToClient, Send, Cut}
use Rattle.slink_model.specs.Counted.{AreItems, ArePackets, AreStreamed, Counted, CountedLink, Gained, IsStreamed}
use Rattle.slink_model.specs.Counted.{answer_at, undelivered, events_upon, gained_by, with_events}
use Rattle.slink_model.specs.Counted.{counted_step, read_by, if_come, items_sent, new_link, news}
use Rattle.slink_model.specs.Counted.{on_item, part, sent_by, served_by, taken_by, talk_upon, waits, wholes, windows_of}
use Rattle.slink_feed.specs.declared.dialogue.Event.{Event}
use Rattle.slink_feed.specs.Dialogue.{Reply, Talk, heard, to_place, want_at}
use Rattle.slink_feed.specs.Listening.{IsLinked}
use Rattle.slink_feed.specs.Session.{sent}
use Rattle.slink_model.specs.Ties.{Item, Accepted, Refused, Greeted, Carried, Finished, Places, item_bytes, items_of}
use Rattle.slink_model.specs.Ties.{way_bytes}
use Rattle.slink_feed.specs.Window.{Window}
use Rattle.slink_model.specs.Whole.{KeepsLink}
use Rattle.slink_model.specs.World.{Differ, Lists, Numbers, written}
use Rattle.slink_model.proofs.CountedRead.{unlinked_upon}
use Rattle.slink_model.proofs.Counting.{after_cut, more_cut, whole_or, wholes_beyond, wholes_length}
use Rattle.slink_model.proofs.Counted.{First, Heard, Hears, at_stage, first_heard, hears_number, hears_packet}
use Rattle.slink_model.proofs.Counted.{hears_place}
use Rattle.slink_model.proofs.Counted.{linked_heard, wide_event}
use Rattle.slink_model.specs.Spared.{HaveCodes}
use Rattle.slink_model.specs.Counted.{with_event}
use Rattle.slink_feed.specs.Session.{State}
use Rattle.slink_feed.proofs.Items.{within_is}
use Rattle.slink_model.proofs.ReadAll.{linked_or}
use Rattle.slink_model.specs.Ties.{AreOfPlace}
use Rattle.slink_model.proofs.Shaking.{AreCalled, AreSent, EndsIn, Left, packets_sent, place_at, want_of}

-- how many replies a client read that waits for this
abbrev replies_at : Places → Stage → ℕ
replies_at places (Station k) = 2 * k
replies_at places (Number k) = 2 * k + 1
replies_at places Packets = 2 * length places
replies_at places stage = 0

abbrev IsWithin : Places → Stage → Type 0
IsWithin places (Station k) = k < length places
IsWithin places (Number k) = k < length places
IsWithin places stage = Unit {0}

-- what it read after them
abbrev pub AreRead : Stage → List Item → Type 0
AreRead Packets is = ArePackets is
AreRead stage is = is ≡ []

pub record Shape (places : Places) (stage : Stage) (heard : List Item) : Type 0 where
  pub packets : List Item
  pub heard_is : heard ≡ replicate (replies_at places stage) Accepted ++ packets
  pub within : IsWithin places stage
  pub are : AreRead stage packets

-- what is known of a link of which more is taken
pub record LinkFacts (places : Places) (talk : Talk) (c : CountedLink) : Type 0 where
  pub s : State
  pub taken : List ℕ
  pub way : List ℕ
  pub left : Left places s taken talk way (undelivered c.delivered c.sent)
  pub few : c.delivered ≤ length (way_bytes c.sent)

abbrev pub AreFacts : Places → Talk → Option CountedLink → Type 0
AreFacts places talk None = Unit {0}
AreFacts places talk (Some c) = IsLinked talk.stage → LinkFacts places talk c

-- What holds of a client over one link by what it has heard, and goes on so with what it hears.
module _ (places : Places) (differ : Differ places) (codes_are : HaveCodes places)
    (P : Talk → Lists → List Item → Type 0) (next : (t : Talk) (f : Numbers) (g : Gained) (old : List Item) (i : Item)
    → AreCalled places t.wants → length g.held ≡ length places → P t g.held old → Hears places t i
    → P (on_item t.stage i t).0 (with_event f (on_item t.stage i t).1 g).held (old ++ i ∷ [])) where
  heard_along : (s : State) (taken : List ℕ) (items : List Item) (way : List ℕ) (t : Talk) (d : ℕ) (f : Numbers)
      (g : Gained) (old : List Item) → Heard places s taken t way items → length g.held ≡ length places
      → P t g.held old → IsLinked (talk_upon t (wholes d items)).stage
      → P (talk_upon t (wholes d items)) (with_events f (events_upon t (wholes d items)) g).held (old ++ wholes d items)
  heard_along s taken [] way t d f g old h wide p linked = subst (P t g.held) (sym (append-nil old)) p
  heard_along s taken (i ∷ is) way t d f g old h wide p linked =
      let first : First places s taken t way i is = first_heard places differ codes_are s taken way t i is h in
      let x : Talk × Event = on_item t.stage i t in
      let ws : List Item = wholes (d - length (item_bytes i)) is in
      whole_or i is d (λ ws bs e. IsLinked (talk_upon t ws).stage
      → P (talk_upon t ws) (with_events f (events_upon t ws) g).held (old ++ ws))
      (λ fits there. elim (linked_or x.0.stage) [
        | inl on ↦ subst (P (talk_upon x.0 ws) (with_events f (events_upon x.0 ws) (with_event f x.1 g)).held)
            (append_assoc old (i ∷ []) ws)
            (heard_along s taken is (way ++ written x.1) x.0 (d - length (item_bytes i)) f (with_event f x.1 g)
            (old ++ i ∷ []) first.after (wide_event f x.1 g ∙ wide) (next t f g old i h.called wide p (first.hears on))
            there)
        | inr over ↦ absurd (over (subst (λ (u : Talk). IsLinked u.stage) (unlinked_upon x.0 ws over).0 there))
      ]) (λ lt there. subst (P t g.held) (sym (append-nil old)) p) linked

  abbrev pub Along : Talk → Lists → Option CountedLink → Type 0
  Along talk held None = Unit {0}
  Along talk held (Some l) = IsLinked talk.stage → P talk held (wholes l.delivered l.sent)

  come_along : (t : Bool) (feed : List Window) (talk : Talk) (held : Lists) (l : CountedLink)
      → l.delivered ≤ length (way_bytes l.sent) → P talk held (wholes l.delivered l.sent)
      → P talk held (wholes (if_come t feed talk l).delivered (if_come t feed talk l).sent)
  come_along true feed talk held l few h =
      rw (more_cut l.sent (items_of (answer_at talk.stage feed talk l.session).1) l.delivered few).0 h
  come_along false feed talk held l few h = h

  served_along : (feed : List Window) (talk : Talk) (held : Lists) (n : ℕ) (q : Option CountedLink)
      → AreFacts places talk q → Along talk held q → Along talk held (option_map (served_by feed talk n) q)
  served_along feed talk held n None f h = tt
  served_along feed talk held n (Some l) f h =
      λ linked. come_along (waits l.taken l.written && not (waits (taken_by n l) l.written)) feed talk held
      (record l { taken = taken_by n l }) (f linked).few (h linked)

  sent_along : (feed : List Window) (talk : Talk) (held : Lists) (k : ℕ) (q : Option CountedLink)
      → AreFacts places talk q → Along talk held q → Along talk held (option_map (sent_by feed k) q)
  sent_along feed talk held k None f h = tt
  sent_along feed talk held k (Some l) f h =
      λ linked. rw (more_cut l.sent (items_sent feed l.session.grants k (sent feed l.session k).1) l.delivered
      (f linked).few).0 (h linked)

  read_along : (n : ℕ) (c : Counted) (q : Option CountedLink) → AreCalled places c.talk.wants
      → length c.held ≡ length places → AreFacts places c.talk q → Along c.talk c.held q
      → Along c.talk c.held c.link → Along (read_by n c q).talk (read_by n c q).held (read_by n c q).link
  read_along n c None called wide f h same = same
  read_along n c (Some l) called wide f h same = λ linked. elim (linked_or c.talk.stage) [
    | inl there ↦
        let facts : LinkFacts places c.talk l = f there in
        subst (P (talk_upon c.talk (news n l)) (gained_by n c l).held) (sym (after_cut l.sent l.delivered n).0)
        (heard_along facts.s facts.taken (undelivered l.delivered l.sent) facts.way c.talk (part l.delivered l.sent + n)
        l.first_sent (record { held = c.held; start = c.start; to_server = l.written }) (wholes l.delivered l.sent)
        (linked_heard places facts.s facts.taken c.talk facts.way _ there called facts.left) wide (h there) linked)
    | inr over ↦ absurd (over (subst (λ (t : Talk). IsLinked t.stage) (unlinked_upon c.talk (news n l) over).0 linked))
  ]

  pub step_along : (setup : Setup) (c : Counted) (step : Step) → KeepsLink step → AreCalled places c.talk.wants
      → length c.held ≡ length places → AreFacts places c.talk c.link → Along c.talk c.held c.link
      → Along (counted_step setup c step).talk (counted_step setup c step).held (counted_step setup c step).link
  step_along setup c (Append k b) keep called wide f h = h
  step_along setup c (ToServer n) keep called wide f h =
      served_along (windows_of setup c) c.talk c.held n c.link f h
  step_along setup c (ToClient n) keep called wide f h = read_along n c c.link called wide f h h
  step_along setup c (Send k) keep called wide f h = sent_along (windows_of setup c) c.talk c.held k c.link f h
  step_along setup c step keep called wide f h = absurd keep

packet_more : (xs : List Item) (k n : ℕ) (r : List ℕ) → ArePackets xs → length r ≡ 512
    → ArePackets (xs ++ Carried k n r ∷ [])
packet_more [] k n r are long = (long, tt)
packet_more (Carried j m x ∷ xs) k n r are long = (are.0, packet_more xs k n r are.1 long)
packet_more (x ∷ xs) k n r are long = absurd are

-- one reply more
replies_more : (m : ℕ) → (replicate m Accepted ++ []) ++ Accepted ∷ [] ≡ replicate (m + 1) Accepted ++ []
replies_more zero = refl
replies_more (suc m) = ap (λ is. Accepted ∷ is) (replies_more m)
    ∙ ap (λ k. replicate k Accepted ++ []) (let e : suc (m + 1) ≡ suc m + 1 = omega arith in e)

module _ (places : Places) (old : List Item) where
  reply_heard : (m : ℕ) (packets : List Item) (new : Stage) → old ≡ replicate m Accepted ++ packets → packets ≡ []
      → replies_at places new ≡ m + 1 → IsWithin places new → AreRead new [] → Shape places new (old ++ Accepted ∷ [])
  reply_heard m packets new is none more within are = record {
    packets = [];
    heard_is = ap (λ (xs : List Item). xs ++ Accepted ∷ []) (is ∙ ap (λ ps. replicate m Accepted ++ ps) none)
        ∙ (replies_more m ∙ ap (λ k. replicate k Accepted ++ []) (sym more));
    within = within;
    are = are;
  }

  number_heard : (t : Talk) (k : ℕ) (o : Option Wanted) → AreCalled places t.wants → want_at t.wants (k + 1) ≡ o
      → Shape places (Number k) old → Shape places (to_place o (k + 1) t).0.stage (old ++ Accepted ∷ [])
  number_heard t k None called want h =
      let last : length places ≤ k + 1 = elim (cases_lt (k + 1) (length places)) [
        | inl more ↦ absurd (let q = within_is places (k + 1) more in
            let bad : None ≡ Some (want_of places t.wants called (k + 1) q.0 q.1).0 = sym want
            ∙ (want_of places t.wants called (k + 1) q.0 q.1).1 in cc bad)
        | inr le ↦ omega (arith, le)
      ] in
      reply_heard (2 * k + 1) h.packets Packets h.heard_is h.are (omega (arith, h.within, last)) tt tt
  number_heard t k (Some w) called want h =
      let q = place_at places t.wants called (k + 1) w want in
      reply_heard (2 * k + 1) h.packets (Station (k + 1)) h.heard_is h.are (omega arith)
      (slice_get_within places (k + 1) q.0 q.1) refl

  shape_heard : (t : Talk) (i : Item) → AreCalled places t.wants → Hears places t i → Shape places t.stage old
      → Shape places (on_item t.stage i t).0.stage (old ++ i ∷ [])
  shape_heard t i called (hears_place k stage) = at_stage (λ u. Shape places u.stage old
      → Shape places (on_item u.stage Accepted u).0.stage (old ++ Accepted ∷ [])) t (Station k) stage
      (λ h. reply_heard (2 * k) h.packets (Number k) h.heard_is h.are refl h.within refl)
  shape_heard t i called (hears_number k stage) = at_stage (λ u. Shape places u.stage old
      → Shape places (on_item u.stage Accepted u).0.stage (old ++ Accepted ∷ [])) t (Number k) stage
      (number_heard (heard (Reply (codes "OK")) (record t { stage = Number k })) k (want_at t.wants (k + 1))
      called refl)
  shape_heard t i called (hears_packet k n r stage of) = at_stage (λ u. Shape places u.stage old
      → Shape places (on_item u.stage (Carried k n r) u).0.stage (old ++ Carried k n r ∷ [])) t Packets stage
      (λ h. record {
        packets = h.packets ++ Carried k n r ∷ [];
        heard_is = ap (λ (xs : List Item). xs ++ Carried k n r ∷ []) h.heard_is
            ∙ append_assoc (replicate (2 * length places) Accepted) h.packets (Carried k n r ∷ []);
        within = tt;
        are = packet_more h.packets k n r h.are of.2;
      })

abbrev pub HasShape : Places → Talk → Lists → List Item → Type 0
HasShape places talk held heard = Shape places talk.stage heard

pub shape_next : (places : Places) (t : Talk) (f : Numbers) (g : Gained) (old : List Item) (i : Item)
    → AreCalled places t.wants → length g.held ≡ length places → HasShape places t g.held old → Hears places t i
    → HasShape places (on_item t.stage i t).0 (with_event f (on_item t.stage i t).1 g).held (old ++ i ∷ [])
shape_next places t f g old i called wide h hears = shape_heard places old t i called hears h

module _ (places : Places) (differ : Differ places) (codes_are : HaveCodes places) where
  abbrev pub AreShaped : Counted → Type 0
  AreShaped c = Along places differ codes_are (HasShape places) (shape_next places) c.talk c.held c.link

  connect_shaped : (talk : Talk) (held : Lists) (o : Option Wanted) → 0 < length places → AreCalled places talk.wants
      → want_at talk.wants 0 ≡ o
      → Along places differ codes_are (HasShape places) (shape_next places) (to_place o 0 talk).0 held
      (Some (new_link (written (to_place o 0 talk).1)))
  connect_shaped talk held None some called want =
      let p = within_is places 0 some in
      let first = want_of places talk.wants called 0 p.0 p.1 in
      absurd (let bad : None ≡ Some first.0 = sym want ∙ first.1 in cc bad)
  connect_shaped talk held (Some w) some called want =
      λ _. record { packets = []; heard_is = refl; within = some; are = refl }

pub step_shaped : (setup : Setup) (differ : Differ setup.places.items) (codes_are : HaveCodes setup.places.items)
    (c : Counted) (step : Step) → 0 < length setup.places.items → AreCalled setup.places.items c.talk.wants
    → length c.held ≡ length setup.places.items → AreFacts setup.places.items c.talk c.link
    → AreShaped setup.places.items differ codes_are c
    → AreShaped setup.places.items differ codes_are (counted_step setup c step)
step_shaped setup differ codes_are c Connect some called wide f h =
    connect_shaped setup.places.items differ codes_are c.talk c.held (want_at c.talk.wants 0) some called refl
step_shaped setup differ codes_are c Cut some called wide f h = tt
step_shaped setup differ codes_are c step some called wide f h =
    step_along setup.places.items differ codes_are (HasShape setup.places.items) (shape_next setup.places.items) setup c
    step tt called wide f h

-- what is reported of it
pub items_are : (places : Places) (phase : Phase) (prefix is : List Item) → ArePackets prefix → AreSent is
    → AreOfPlace places is → EndsIn phase is → AreItems (prefix ++ is)
items_are places phase [] [] a s b e = tt
items_are places phase [] (Accepted ∷ is) a s b e = absurd s.0
items_are places phase [] (Refused ∷ is) a s b e = absurd s.0
items_are places phase [] (Greeted ∷ is) a s b e = absurd s.0
items_are places phase [] (Carried k n r ∷ is) a s b e = (b.0.2, items_are places phase [] is tt s.1 b.1 e)
items_are places phase [] (Finished ∷ is) a s b e = e.0
items_are places phase (Carried k n r ∷ prefix) is a s b e = (a.0, items_are places phase prefix is a.1 s b e)
items_are places phase (item ∷ prefix) is a s b e = absurd a

pub replies_length : (m : ℕ) (ps : List Item)
    → length (way_bytes (replicate m Accepted ++ ps)) ≡ 4 * m + length (way_bytes ps)
replies_length zero ps = omega arith
replies_length (suc m) ps =
    omega (arith, replies_length m ps, length-append (item_bytes Accepted) (way_bytes (replicate m Accepted ++ ps)))

-- While packets are awaited, these are what was read after the replies and what wasn't.
abbrev pub streamed_at : (places : Places) (talk : Talk) (l : CountedLink) → talk.stage ≡ Packets
    → LinkFacts places talk l → Shape places Packets (wholes l.delivered l.sent) → IsStreamed (length places) l
streamed_at places talk l p y x =
    let its : List Item = undelivered l.delivered l.sent in
    record {
      packets = x.packets ++ its;
      sent_is = wholes_beyond l.sent l.delivered ∙ (ap (λ (is : List Item). is ++ its) x.heard_is
          ∙ append_assoc (replicate (2 * length places) Accepted) x.packets its);
      are = items_are places y.s.phase x.packets its x.are
          (packets_sent talk y.s.phase y.taken y.way its p y.left.shakes) y.left.matched y.left.ends;
      replies = omega (
        arith,
        wholes_length l.sent l.delivered y.few,
        ap (λ (is : List Item). length (way_bytes is)) x.heard_is,
        replies_length (2 * length places) x.packets,
      );
    }

pub streamed_of : (places : Places) (differ : Differ places) (codes_are : HaveCodes places) (c : Counted)
    → AreFacts places c.talk c.link → AreShaped places differ codes_are c → AreStreamed (length places) c.talk c.link
streamed_of places differ codes_are c f h = of c.link f h
  where
    of : (q : Option CountedLink) → AreFacts places c.talk q
        → Along places differ codes_are (HasShape places) (shape_next places) c.talk c.held q → AreStreamed
        (length places) c.talk q
    of None f h = tt
    of (Some l) f h = λ p.
        let linked : IsLinked c.talk.stage = subst IsLinked (sym p) tt in
        streamed_at places c.talk l p (f linked)
        (subst (λ (s : Stage). Shape places s (wholes l.delivered l.sent)) p (h linked))
