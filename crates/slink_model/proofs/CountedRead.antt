-- The counts of a link after bytes that come to its client.
use Rattle.std.proofs.Common.{◌≡◌, ℕ, ◌+◌, inl, inr, refl, sym, ap, subst, ◌∙◌, arith, List, [], ◌∷◌, ◌++◌, append-nil}
use Rattle.std.proofs.Common.{append_assoc, length, length-append, take, drop, take-append-drop, Option, Some}
use Rattle.std.proofs.Common.{slice_get, map}
use Rattle.std.proofs.Math.Seq.{take-add}
use Rattle.std.proofs.lemmas.List.{drop-drop, drop_at, length-take-le, take_at}
use Rattle.slink_wire.specs.Place.{Fields, IsField}
use Rattle.slink_feed.specs.declared.dialogue.Event.{Event}
use Rattle.slink_feed.specs.declared.dialogue.Event.TheVariants as events
use Rattle.slink_feed.specs.declared.dialogue.Stage.{Stage}
use Rattle.slink_feed.specs.declared.dialogue.Stage.TheVariants.{Unlinked, Ended}
use Rattle.slink_model.specs.Counted.{CountedLink, Gained, undelivered, delivered_by, events_upon, news, on_item, part}
use Rattle.slink_model.specs.Counted.{talk_upon, with_event, with_events}
use Rattle.slink_feed.specs.Cutting.{IsBegun}
use Rattle.slink_feed.specs.Dialogue.{Talk}
use Rattle.slink_feed.specs.Listening.{Brought, IsLinked, bytes_of, events_of, talk_after}
use Rattle.slink_feed.specs.Serving.{SessionState}
use Rattle.slink_model.specs.Spared.{IsSpared}
use Rattle.slink_model.specs.Ties.{Item, Places, way_bytes}
use Rattle.slink_model.specs.World.{Differ, IsRead, LinkState, Numbers, Taking, WorldState, taking}
use Rattle.slink_model.proofs.Counted.{Heard, linked_heard, outcome}
use Rattle.slink_feed.proofs.OneReading.{IsRest}
use Rattle.slink_model.proofs.Counting.{after_cut, brought_of, drop_after, drop_on, kept_part, take_wholes}
use Rattle.slink_model.proofs.Counts.{Counts, Pinned}
use Rattle.slink_model.proofs.Lined.{IsAnswered}
use Rattle.slink_feed.proofs.OneReading.{one_brought}
use Rattle.slink_model.proofs.ReadAll.{gained, read_all, linked_or, lost_all, rest_is}
use Rattle.slink_model.proofs.Shaking.{AreCalled}

-- with bytes before what was stated
abbrev put : List ℕ → Gained → Gained
put a g = record g { to_server = a ++ g.to_server }

prefix_event : (f : Numbers) (e : Event) (a : List ℕ) (g : Gained) → with_event f e (put a g) ≡ put a (with_event f e g)
prefix_event f (events.Say line) a g =
    ap (λ (b : List ℕ). record g { to_server = b }) (append_assoc a g.to_server line.items)
prefix_event f event a g = refl

prefix_events : (f : Numbers) (es : List Event) (a : List ℕ) (g : Gained)
    → with_events f es (put a g) ≡ put a (with_events f es g)
prefix_events f [] a g = refl
prefix_events f (e ∷ es) a g = ap (with_events f es) (prefix_event f e a g) ∙ prefix_events f es a (with_event f e g)

-- a client that takes no more
unread : (t : Talk) (stage : Stage) (i : Item) → t.stage ≡ stage → ¬ (IsLinked stage)
    → on_item t.stage i t ≡ (t, events.None)
unread t Unlinked i is over = ap (λ (s : Stage). on_item s i t) is
unread t (Ended ending) i is over = ap (λ (s : Stage). on_item s i t) is
unread t stage i is over = absurd (over tt)

pub unlinked_upon : (t : Talk) (is : List Item) → ¬ (IsLinked t.stage)
    → (talk_upon t is ≡ t) × ((f : Numbers) (g : Gained) → with_events f (events_upon t is) g ≡ g)
unlinked_upon t [] over = (refl, λ f g. refl)
unlinked_upon t (i ∷ is) over = rw (unread t t.stage i refl over) (unlinked_upon t is over)

-- what comes of bytes beside the client, and of its link
abbrev pub gains_of : WorldState → ℕ → CountedLink → Gained
gains_of w n c = with_events c.first_sent (events_upon w.client.talk (news n c))
    (record { held = w.held; start = w.start; to_server = c.written })

abbrev pub now_counted : WorldState → ℕ → CountedLink → CountedLink
now_counted w n c = record c { written = (gains_of w n c).to_server; delivered = delivered_by n c }

module _ (places : Places) (differ : Differ places) (codes : (k : ℕ) (p : Fields × Option ℕ)
    → slice_get places k ≡ Some p → IsField 5 p.0.station × IsField 2 p.0.network) (w v : WorldState) (n : ℕ)
    (l m : LinkState) (c : CountedLink)
    (tie : Counts places w.client c l) (h : IsRead n w v l m) (begun_before : IsBegun w.client.talk.stage w.client.kept)
    (called_before : AreCalled places w.client.talk.wants) (spared_before : IsSpared w.client.talk.stage) where
  abbrev its : List Item
  its = undelivered c.delivered c.sent

  abbrev p : ℕ
  p = part c.delivered c.sent

  abbrev e : ℕ
  e = p + n

  abbrev before : List ℕ
  before = take c.taken c.written

  abbrev gains : Gained
  gains = gains_of w n c

  pub record ReadCounts : Type 0 where
    pub talk : v.client.talk ≡ talk_upon w.client.talk (news n c)
    pub held : v.held ≡ gains.held
    pub start : v.start ≡ gains.start
    pub counts : Counts places v.client (now_counted w n c) m
    pub keeps : IsBegun v.client.talk.stage v.client.kept
    pub called : AreCalled places v.client.talk.wants
    pub spared : IsSpared v.client.talk.stage

  state_is : m.session.state ≡ l.session.state
  state_is = ap (λ (s : SessionState). s.state) h.session

  -- what comes of it beside the client
  gains_is : gained (taking v m) ≡ with_events l.first_sent (events_upon w.client.talk (news n c))
      (gained (taking w l)) → gains ≡ put before (gained (taking v m))
  gains_is g =
      let all : before ++ l.to_server ≡ c.written = ap (λ b. before ++ b) tie.to_server
      ∙ take-append-drop c.taken c.written in
      ap (λ (b : List ℕ). with_events c.first_sent (events_upon w.client.talk (news n c))
      (record { held = w.held; start = w.start; to_server = b })) (sym all)
      ∙ (prefix_events c.first_sent (events_upon w.client.talk (news n c)) before (gained (taking w l))
      ∙ ap (put before) (ap (λ (f : Numbers). with_events f (events_upon w.client.talk (news n c))
      (gained (taking w l))) (sym tie.first_sent) ∙ sym g))

  made : v.client.talk ≡ talk_upon w.client.talk (news n c)
      → gained (taking v m) ≡ with_events l.first_sent (events_upon w.client.talk (news n c)) (gained (taking w l))
      → (IsLinked v.client.talk.stage
      → Pinned places v.client l.session.state before m.to_server m.to_client (undelivered e its))
      → (¬ (IsLinked v.client.talk.stage) → IsAnswered before m.to_server)
      → IsBegun v.client.talk.stage v.client.kept → AreCalled places v.client.talk.wants
      → IsSpared v.client.talk.stage → ReadCounts
  made talk g pinned quiet keeps_now called_now spared_now =
      let is : gains ≡ put before (gained (taking v m)) = gains_is g in
      let written : gains.to_server ≡ before ++ m.to_server = ap (λ (x : Gained). x.to_server) is in
      let long : length before ≡ c.taken = length-take-le c.taken c.written tie.taken_few in
      let prefix : take c.taken gains.to_server ≡ before = ap (take c.taken) written
      ∙ take_at before m.to_server c.taken long in
      record {
        talk = talk;
        held = sym (ap (λ (x : Gained). x.held) is);
        start = sym (ap (λ (x : Gained). x.start) is);
        counts = record {
          session = state_is ∙ tie.session;
          first_sent = h.first_sent ∙ tie.first_sent;
          to_server = sym (ap (drop c.taken) written ∙ drop_at before m.to_server c.taken long);
          to_client = h.left ∙ (ap (drop n) tie.to_client ∙ sym (drop_on (way_bytes c.sent) c.delivered n));
          taken_few = omega (arith, ap length written, length-append before m.to_server, long);
          delivered_few = omega arith;
          held = rw (h.session, prefix) tie.held;
          linked = λ there. rw (state_is, prefix, (after_cut c.sent c.delivered n).1) (pinned there);
          quiet = λ over. rw prefix (quiet over);
        };
        keeps = keeps_now;
        called = called_now;
        spared = spared_now;
      }

  -- while more is taken
  linked_read : IsLinked w.client.talk.stage → ReadCounts
  linked_read there =
      let pin = tie.linked there in
      let t : Talk = w.client.talk in
      let all : List ℕ = way_bytes its in
      let bs : List Brought = map brought_of (news n c) in
      let g : Gained = gained (taking w l) in
      let left : List Item = undelivered e its in
      let rest : List ℕ = take (part e its) (way_bytes left) in
      let out = outcome places differ codes l.session.state before its l.to_server t e
      (linked_heard places l.session.state before t l.to_server its there called_before pin.left) in
      let x = read_all l.first_sent (taking w l) (take n l.to_client) (taking v m) h.reads begun_before in
      let way : l.to_client ≡ drop p all = tie.to_client ∙ drop_after c.sent c.delivered in
      let kept = kept_part w.client.kept c.sent c.delivered
      (ap (λ b. w.client.kept ++ b) (sym tie.to_client) ∙ pin.flow) in
      let stream : w.client.kept ++ take n l.to_client ≡ bytes_of bs ++ rest = ap (λ b. b ++ take n l.to_client) kept
      ∙ (ap (λ b. take p all ++ take n b) way ∙ (sym (take-add p n all) ∙ take_wholes its e)) in
      let all_is : w.client.kept ++ take n l.to_client ≡ bytes_of x.reads.brought ++ (v.client.kept ++ x.lost) =
      x.all_is ∙ (ap (λ b. b ++ x.lost) x.reads.bytes ∙ append_assoc (bytes_of x.reads.brought) v.client.kept x.lost) in
      let one = one_brought t x.reads.brought bs (v.client.kept ++ x.lost) rest x.reads.are_brought out.are
      (sym all_is ∙ stream) (rest_is l.first_sent t g (w.client.kept ++ take n l.to_client) (taking v m) x)
      (subst (λ (u : Talk). IsRest u.stage rest) (sym out.same.0) out.is_begun) in
      let talk : v.client.talk ≡ talk_upon t (news n c) = x.reads.talk ∙ (ap (talk_after t) one.0 ∙ out.same.0) in
      let now : gained (taking v m) ≡ with_events l.first_sent (events_upon t (news n c)) g =
      x.gains ∙ (ap (λ es. with_events l.first_sent es g) (x.reads.events_are ∙ ap (events_of t) one.0)
      ∙ out.same.1 l.first_sent g) in
      let heard : Heard places l.session.state before v.client.talk m.to_server left =
      rw (talk, ap (λ (y : Gained). y.to_server) now) (out.heard l.first_sent g refl) in
      made talk now
      (λ on.
      let outputs_now : v.client.kept ≡ rest = sym (append-nil v.client.kept)
      ∙ (ap (λ b. v.client.kept ++ b) (sym (x.whole on)) ∙ one.1) in
      let way_now = h.left ∙ (ap (drop n) way ∙ (drop-drop n p all ∙ drop_after its e)) in
      record {
        flow = ap (λ b. b ++ m.to_client) outputs_now
            ∙ (ap (λ b. rest ++ b) way_now ∙ take-append-drop (part e its) (way_bytes left));
        left = heard.left on;
      }) (λ over. (heard.over over).1) x.reads.is_begun heard.called heard.spared

  -- and afterwards
  unlinked_read : ¬ (IsLinked w.client.talk.stage) → ReadCounts
  unlinked_read over =
      let same = lost_all l.first_sent (taking w l) (take n l.to_client) (taking v m) h.reads over in
      let nothing = unlinked_upon w.client.talk (news n c) over in
      let talk : v.client.talk ≡ w.client.talk = ap (λ (t : Taking). t.client.talk) same in
      let server : m.to_server ≡ l.to_server = ap (λ (t : Taking). t.to_server) same in
      made (talk ∙ sym nothing.0) (ap gained same ∙ sym (nothing.1 l.first_sent (gained (taking w l))))
      (λ on. absurd (over (subst (λ (t : Talk). IsLinked t.stage) talk on)))
      (λ _. subst (IsAnswered before) (sym server) (tie.quiet over))
      (subst (λ (x : Taking). IsBegun x.client.talk.stage x.client.kept) (sym same) begun_before)
      (subst (λ (t : Talk). AreCalled places t.wants) (sym talk) called_before)
      (subst (λ (t : Talk). IsSpared t.stage) (sym talk) spared_before)

  pub read_counts : ReadCounts
  read_counts = elim (linked_or w.client.talk.stage) [
    | inl there ↦ linked_read there
    | inr over ↦ unlinked_read over
  ]
