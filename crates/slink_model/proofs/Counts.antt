-- The counts of a link, with who has sent what.
use Rattle.std.proofs.Common.{◌≡◌, ℕ, ◌+◌, ◌≤◌, inl, inr, refl, sym, ap, subst, ◌∙◌, arith, Bool, true, false}
use Rattle.std.proofs.Common.{◌&&◌, not, List, [], ◌++◌, append-nil, length, length-append, length-drop, take}
use Rattle.std.proofs.Common.{drop, take-append-drop}
use Rattle.std.proofs.lemmas.Bool.Decides.{leb_tells}
use Rattle.std.proofs.lemmas.List.{drop-append-le}
use Rattle.slink_wire.specs.declared.reply.Reply.{Reply}
use Rattle.slink_wire.specs.declared.reply.Reply.TheVariants as replies
use Rattle.slink_wire.specs.declared.request.Request.{Request}
use Rattle.slink_wire.specs.Lines.{IsHeld}
use Rattle.slink_wire.specs.Reply.{reply_bytes}
use Rattle.slink_wire.specs.Request.{request_line}
use Rattle.slink_model.specs.Counted.{CountedLink, answer_at, undelivered, if_come, replied, served_by}
use Rattle.slink_model.specs.Counted.{taken_by, waits}
use Rattle.slink_feed.specs.Listening.{IsLinked, Listening}
use Rattle.slink_feed.specs.Session.{IsBefore, State, at}
use Rattle.slink_model.specs.Ties.{Item, Places, items_of, way_bytes}
use Rattle.slink_feed.specs.Window.{Window}
use Rattle.slink_model.specs.World.{Differ, IsServed, LinkState}
use Rattle.slink_model.proofs.Answering.{Comes, called_on, it_came, not_yet, quiet_on}
use Rattle.slink_model.proofs.Counting.{drop_on, more_cut, take_on}
use Rattle.slink_model.proofs.Items.{flow_more, reply_items, way_more}
use Rattle.slink_model.proofs.Lined.{IsAnswered, IsAsking}
use Rattle.slink_model.proofs.ReadAll.{linked_or}
use Rattle.slink_model.proofs.Shaking.{AreCalled, AreRinged, Asks, Left, Shakes, answer_left, asked_answer}
use Rattle.slink_model.proofs.Shaking.{asked_command, asks, asks_before, has, streams}
use Rattle.slink_model.specs.Spared.{HaveCodes}
use Rattle.slink_model.proofs.Waiting.{answered_few, asking_waits}

-- what is on its way in both directions
pub record Pinned (places : Places) (client : Listening) (s : State) (taken way to_client : List ℕ)
    (items : List Item) : Type 0 where
  pub flow : client.kept ++ to_client ≡ way_bytes items
  pub left : Left places s taken client.talk way items

-- a link by its counts
pub record Counts (places : Places) (client : Listening) (c : CountedLink) (l : LinkState) : Type 0 where
  pub session : l.session.state ≡ c.session
  pub first_sent : l.first_sent ≡ c.first_sent
  pub to_server : l.to_server ≡ drop c.taken c.written
  pub to_client : l.to_client ≡ drop c.delivered (way_bytes c.sent)
  pub taken_few : c.taken ≤ length c.written
  pub delivered_few : c.delivered ≤ length (way_bytes c.sent)
  pub held : IsHeld l.session.held (take c.taken c.written)
  pub linked : IsLinked client.talk.stage
      → Pinned places client l.session.state (take c.taken c.written) l.to_server l.to_client
      (undelivered c.delivered c.sent)
  pub quiet : ¬ (IsLinked client.talk.stage) → IsAnswered (take c.taken c.written) l.to_server

-- whether a line waits
waits_true : (taken : ℕ) (written way : List ℕ) → way ≡ drop taken written → 2 ≤ length way → waits taken written ≡ true
waits_true taken written way is some = elim (leb_tells (taken + 2) (length written)) [
  | inl more ↦ more.0
  | inr few ↦ absurd (omega (arith, few.1, some, ap length is, length-drop taken written))
]

waits_false : (taken : ℕ) (written way : List ℕ) → way ≡ drop taken written → length way ≤ 1
    → waits taken written ≡ false
waits_false taken written way is few = elim (leb_tells (taken + 2) (length written)) [
  | inl more ↦ absurd (omega (arith, more.1, few, ap length is, length-drop taken written))
  | inr less ↦ less.0
]

module _ (places : Places) (differ : Differ places) (codes : HaveCodes places) (client : Listening)
    (called : AreCalled places client.talk.wants) (feed : List Window) (ringed : AreRinged places feed) (n : ℕ)
    (l m : LinkState) (served : IsServed feed n l m) (c : CountedLink) (counts : Counts places client c l) where
  abbrev s : State
  s = l.session.state

  abbrev bytes : List ℕ
  bytes = take n l.to_server

  abbrev rest : List ℕ
  rest = drop n l.to_server

  abbrev before : List ℕ
  before = take c.taken c.written

  abbrev items : List Item
  items = undelivered c.delivered c.sent

  cut : l.to_server ≡ bytes ++ rest
  cut = sym (take-append-drop n l.to_server)

  take_now : take (taken_by n c) c.written ≡ before ++ bytes
  take_now = take_on c.written c.taken n ∙ ap (λ b. before ++ take n b) (sym counts.to_server)

  drop_now : rest ≡ drop (taken_by n c) c.written
  drop_now = ap (drop n) counts.to_server ∙ sym (drop_on c.written c.taken n)

  abbrev base : CountedLink
  base = record c { taken = taken_by n c }

  abbrev with_reply : Reply → CountedLink
  with_reply reply = record c { session = m.session.state; taken = taken_by n c; sent = c.sent ++ items_of reply }

  base_is : s ≡ m.session.state → base ≡ with_reply replies.Nothing
  base_is same = ap (λ (x : State). record c { session = x; taken = taken_by n c }) (sym counts.session ∙ same)
      ∙ ap (λ (x : List Item). record c { session = m.session.state; taken = taken_by n c; sent = x })
      (sym (append-nil c.sent))

  -- what is left on its way, with a reply
  abbrev Goes : Reply → Type 0
  Goes reply = Left places m.session.state (before ++ bytes) client.talk rest (items ++ items_of reply)

  made : (d : CountedLink) (reply : Reply) → d ≡ with_reply reply → m.to_client ≡ l.to_client ++ reply_bytes reply
      → IsHeld m.session.held (before ++ bytes) → (IsLinked client.talk.stage → Goes reply)
      → (¬ (IsLinked client.talk.stage) → IsAnswered (before ++ bytes) rest) → Counts places client d m
  made d reply is sent held goes quiet =
      subst (λ (x : CountedLink). Counts places client x m) (sym is) (record {
        session = refl;
        first_sent = served.first_sent ∙ counts.first_sent;
        to_server = served.left ∙ drop_now;
        to_client = rw (sent, counts.to_client, reply_items reply, way_more c.sent (items_of reply))
            (sym (drop-append-le c.delivered (way_bytes c.sent) (way_bytes (items_of reply)) counts.delivered_few));
        taken_few = omega arith;
        delivered_few = omega (
          arith,
          counts.delivered_few,
          ap length (way_more c.sent (items_of reply)),
          length-append (way_bytes c.sent) (way_bytes (items_of reply)),
        );
        held = subst (IsHeld m.session.held) (sym take_now) held;
        linked = λ there. rw (take_now, served.left, sent)
            (rw (more_cut c.sent (items_of reply) c.delivered counts.delivered_few).1 (record {
              flow = flow_more client.kept l.to_client (reply_bytes reply) items (items_of reply) (reply_items reply)
                  (counts.linked there).flow;
              left = goes there;
            }));
        quiet = λ over. rw (take_now, served.left) (quiet over);
      })

  nothing_more : m.to_client ≡ l.to_client → m.to_client ≡ l.to_client ++ reply_bytes replies.Nothing
  nothing_more same = same ∙ sym (append-nil l.to_client)

  -- nothing is answered
  still : m.session.state ≡ s → Left places s before client.talk l.to_server items
      → Shakes client.talk s.phase (before ++ bytes) rest items → Goes replies.Nothing
  still same left shakes = rw (same, append-nil items) (record {
    matched = left.matched;
    suited = left.suited;
    shakes = shakes;
    ends = left.ends;
  })

  -- all lines are answered
  told_counted : IsAnswered before l.to_server
      → (IsLinked client.talk.stage → IsAnswered (before ++ bytes) rest
      → Shakes client.talk s.phase (before ++ bytes) rest items)
      → Counts places client (served_by feed client.talk n c) m
  told_counted told shakes =
      let on = quiet_on feed l.session bytes l.to_client m.session m.to_client rest before served.serves counts.held
      (subst (IsAnswered before) cut told) in
      let none = waits_false c.taken c.written l.to_server counts.to_server (answered_few before l.to_server told) in
      made (served_by feed client.talk n c) replies.Nothing
      (ap (λ t. if_come (t && not (waits (taken_by n c) c.written)) feed client.talk base) none
      ∙ base_is (sym on.state)) (nothing_more on.sent) on.held
      (λ there. still on.state (counts.linked there).left (shakes there on.reported)) (λ over. on.reported)

  -- a line waits
  asked_counted : (r : Request) → Asks client.talk s.phase r → IsAsking (request_line r) before l.to_server
      → items ≡ [] → IsLinked client.talk.stage → Left places s before client.talk l.to_server items
      → Counts places client (served_by feed client.talk n c) m
  asked_counted r asked asking none there left =
      which (called_on feed s r (λ shut. subst IsBefore shut (asks_before client.talk s.phase r asked))
      (asked_command places feed differ codes ringed client.talk called s.phase r asked) l.session bytes l.to_client
      m.session m.to_client rest before served.serves refl counts.held
      (subst (IsAsking (request_line r) before) cut asking))
    where
      served_as : (t : Bool) → waits (taken_by n c) c.written ≡ t
          → served_by feed client.talk n c ≡ if_come (true && not t) feed client.talk base
      served_as t new = ap (λ b. if_come (b && not (waits (taken_by n c) c.written)) feed client.talk base)
          (waits_true c.taken c.written l.to_server counts.to_server
          (asking_waits (request_line r) before l.to_server asking))
          ∙ ap (λ b. if_come (true && not b) feed client.talk base) new

      which : Comes feed s r m.session l.to_client m.to_client (before ++ bytes) rest
          → Counts places client (served_by feed client.talk n c) m
      which (not_yet same sent kept more) =
          made (served_by feed client.talk n c) replies.Nothing
          (served_as true (waits_true (taken_by n c) c.written rest drop_now
          (asking_waits (request_line r) (before ++ bytes) rest more)) ∙ base_is (sym same)) (nothing_more sent)
          kept (λ _. still same left (asks r asked more none)) (λ over. absurd (over there))
      which (it_came reply sent done kept told) =
          let answer : State → State × Reply = λ x. answer_at client.talk.stage feed client.talk x in
          let is : answer s ≡ (m.session.state, reply) =
          sym (asked_answer places feed differ codes ringed client.talk called s r asked) ∙ done in
          made (served_by feed client.talk n c) reply
          (served_as false (waits_false (taken_by n c) c.written rest drop_now
          (answered_few (before ++ bytes) rest told)) ∙ ap (λ (x : State × Reply). replied x base)
          (ap answer (sym counts.session) ∙ is)) sent kept
          (λ _. rw none (subst (λ (x : State × Reply). Left places x.0 (before ++ bytes) client.talk rest
          (items_of x.1))
          is (answer_left places feed client.talk s (before ++ bytes) rest told called.short
          (λ k. rw none at (left.suited k)) r asked))) (λ over. absurd (over there))

  -- by who has sent what
  by_shakes : IsLinked client.talk.stage → Left places s before client.talk l.to_server items
      → Shakes client.talk s.phase before l.to_server items → Counts places client (served_by feed client.talk n c) m
  by_shakes there left (asks r asked asking none) = asked_counted r asked asking none there left
  by_shakes there left (has i at told one) = told_counted told (λ _ more. has i at more one)
  by_shakes there left (streams stage later sent told) = told_counted told (λ _ more. streams stage later sent more)

  pub served_counts : Counts places client (served_by feed client.talk n c) m
  served_counts = elim (linked_or client.talk.stage) [
    | inl there ↦ let left = (counts.linked there).left in by_shakes there left left.shakes
    | inr over ↦ told_counted (counts.quiet over) (λ there _. absurd (over there))
  ]
