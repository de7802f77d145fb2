-- However bytes are cut into pieces, a session answers the same to them.
use Rattle.std.proofs.Common.{◌≡◌, ℕ, ◌⊎◌, inl, inr, refl, sym, ap, subst, ◌∙◌, arith, Bool, true, false, List, [], ◌∷◌}
use Rattle.std.proofs.Common.{◌++◌, append_assoc, append-nil, length, length-append, map, ◌+◌, ◌<◌, nat_lt}
use Rattle.std.proofs.Common.{Option, Some, None}
use Rattle.std.proofs.lemmas.Bool.Decides.{eqb_tells}
use Rattle.std.proofs.lemmas.List.{append_cancel_left, map-append}
use Rattle.slink_wire.specs.declared.command.Command.{Command}
use Rattle.slink_wire.specs.declared.lines.LineOutcome.{LineOutcome}
use Rattle.slink_wire.specs.declared.lines.LineOutcome.TheVariants.{More, Line, TooLong}
use Rattle.slink_wire.specs.declared.reply.Reply.{Reply}
use Rattle.slink_wire.specs.Command.{IsCommand}
use Rattle.slink_wire.specs.Lines.{Spelled, lines_of, stripped, unless_empty}
use Rattle.slink_wire.specs.Reply.{reply_bytes}
use Rattle.slink_wire.specs.Taking.{Yields}
use Rattle.slink_wire.proofs.Spelled.{checked, continued, lines_byte, lines_cr, with_cr}
use Rattle.slink_wire.proofs.Written.{line_once}
use Rattle.slink_feed.specs.declared.session.Phase.TheVariants.{Closed}
use Rattle.slink_feed.specs.Attending.{FailsToReply, RepliesToAll}
use Rattle.slink_feed.specs.Connection.{AreAlike, EmittedAlike}
use Rattle.slink_feed.specs.Rounds.{Attending}
use Rattle.slink_feed.specs.Running.{StandsFor}
use Rattle.slink_feed.specs.Serving.{Answers, IsAnswer, Serves, SessionState, none_served, piece_served}
use Rattle.slink_feed.specs.Session.{State, answered, ended}
use Rattle.slink_feed.specs.Window.{Window}
use Rattle.slink_feed.proofs.Closing.{Open, held_same, open_or, shut_on}
use Rattle.slink_feed.proofs.Deliveries.{prefix_length}
use Rattle.slink_feed.proofs.Stands.{stands_on}

-- what a session answers, one after another: a line, or that one is too long
abbrev Items : Type 0
Items = List (Option (List ℕ))

abbrev over_in : Bool → Items
over_in true = None ∷ []
over_in false = []

abbrev items_in : Spelled → Items
items_in s = map (λ line. Some line) s.lines ++ over_in s.is_too_long

abbrev item_in : LineOutcome → Items
item_in More = []
item_in (Line line) = Some line.items ∷ []
item_in TooLong = None ∷ []

-- With more bytes a stream spells what it spelled, and what comes after that.
abbrev Grown : Spelled → Spelled → Type 0
Grown old new = (more : Items) × (items_in new ≡ items_in old ++ more)

abbrev begun_with : List (List ℕ) → List ℕ → Bool → Spelled
begun_with lines begun t = record { lines = lines; begun = begun; is_too_long = t }

cr_grown : (lines : List (List ℕ)) (begun : List ℕ) (t : Bool)
    → Grown (begun_with lines begun t) (with_cr (begun_with lines begun t))
cr_grown lines begun true = ([], simp append-nil)
cr_grown lines begun false = (map (λ line. Some line) (unless_empty begun), simp (map-append, append-nil))

checked_grown : (lines : List (List ℕ)) (begun line : List ℕ) (t : Bool)
    → Grown (begun_with lines begun false) (checked lines line t)
checked_grown lines begun line true = (None ∷ [], simp append-nil)
checked_grown lines begun line false = ([], simp append-nil)

byte_grown : (b : ℕ) (lines : List (List ℕ)) (begun : List ℕ) (t : Bool)
    → Grown (begun_with lines begun t) (continued b lines begun t)
byte_grown b lines begun true = ([], simp append-nil)
byte_grown b lines begun false =
    checked_grown lines begun (stripped (begun ++ b ∷ [])) (nat_lt 255 (length (stripped (begun ++ b ∷ []))))

one_grown : (stream : List ℕ) (b : ℕ) → Grown (lines_of stream) (lines_of (stream ++ b ∷ []))
one_grown stream b = let s : Spelled = lines_of stream in elim (eqb_tells b 13) [
  | inl cr ↦ rw (cr.1, lines_cr stream) (cr_grown s.lines s.begun s.is_too_long)
  | inr other ↦ rw (lines_byte stream b other.1) (byte_grown b s.lines s.begun s.is_too_long)
]

grown : (stream more : List ℕ) → Grown (lines_of stream) (lines_of (stream ++ more))
grown stream [] = ([], rw (append-nil stream) (sym (append-nil (items_in (lines_of stream)))))
grown stream (b ∷ more) =
    let one : Grown (lines_of stream) (lines_of (stream ++ b ∷ [])) = one_grown stream b in
    let rest : Grown (lines_of (stream ++ b ∷ [])) (lines_of ((stream ++ b ∷ []) ++ more)) =
    grown (stream ++ b ∷ []) more in (
      one.0 ++ rest.0,
      (rw (append_assoc stream (b ∷ []) more) at rest.1) ∙ (ap (λ is. is ++ rest.0) one.1
          ∙ append_assoc (items_in (lines_of stream)) one.0 rest.0),
    )

yields_items : (what : LineOutcome) (before after : List ℕ) → (lines_of before).is_too_long ≡ false
    → Yields what before after → items_in (lines_of after) ≡ items_in (lines_of before) ++ item_in what
yields_items More before after short tells = simp (tells.0, tells.1, short, append-nil)
yields_items (Line line) before after short tells = simp (tells.0, tells.1, short, map-append, append-nil)
yields_items TooLong before after short tells = simp (tells.0, tells.1, short, append-nil)

module _ (feed : List Window) where
  abbrev IsReplyTo : State → Option (List ℕ) → State × Reply → Type 0
  IsReplyTo s (Some line) x = (c : Command) × IsCommand line c × (answered feed s c ≡ x)
  IsReplyTo s None x = ended s ≡ x

  one_reply : (s : State) (i : Option (List ℕ)) (x y : State × Reply) → IsReplyTo s i x → IsReplyTo s i y → x ≡ y
  one_reply s (Some line) x y p q = sym p.2 ∙ (ap (answered feed s) (line_once line p.0 q.0 p.1 q.1) ∙ q.2)
  one_reply s None x y p q = sym p ∙ q

  -- They are answered, one after another, by a session that is open.
  abbrev Runs : State → Items → State → List ℕ → Type 0
  Runs s [] last out = (last ≡ s) × (out ≡ [])
  Runs s (i ∷ is) last out = (x : State × Reply) × Open s.phase × IsReplyTo s i x × (more : List ℕ)
      × (out ≡ reply_bytes x.1 ++ more) × Runs x.0 is last more

  runs_both : (s u v : State) (is js : Items) (x y : List ℕ) → Runs s is u x → Runs u js v y
      → Runs s (is ++ js) v (x ++ y)
  runs_both s u v [] js x y p q = rw p.1 (rw p.0 at q)
  runs_both s u v (i ∷ is) js x y p q = (
    p.0,
    p.1,
    p.2,
    p.3 ++ y,
    ap (λ z. z ++ y) p.4 ∙ append_assoc (reply_bytes p.0.1) p.3 y,
    runs_both p.0.0 u v is js p.3 y p.5 q,
  )

  -- Of the same items sessions that are through with them, or closed, answered the same.
  abbrev IsThrough : State → Items → Type 0
  IsThrough s left = (s.phase ≡ Closed) ⊎ (left ≡ [])

  not_through : (s : State) (left is : Items) (i : Option (List ℕ)) → IsThrough s left → left ≡ i ∷ is
      → ¬ (Open s.phase)
  not_through s left is i (inl shut) e awake = awake shut
  not_through s left is i (inr none) e awake = let bad : [] ≡ i ∷ is = sym none ∙ e in cc bad

  runs_once : (s u v : State) (is js l m : Items) (x y : List ℕ) → Runs s is u x → Runs s js v y → is ++ l ≡ js ++ m
      → IsThrough u l → IsThrough v m → (u ≡ v) × (x ≡ y)
  runs_once s u v [] [] l m x y p q e f g = (p.0 ∙ sym q.0, p.1 ∙ sym q.1)
  runs_once s u v [] (j ∷ js) l m x y p q e f g = absurd (not_through u l (js ++ m) j f e (rw p.0 q.1))
  runs_once s u v (i ∷ is) [] l m x y p q e f g = absurd (not_through v m (is ++ l) i g (sym e) (rw q.0 p.1))
  runs_once s u v (i ∷ is) (j ∷ js) l m x y p q e f g =
      let item : i ≡ j = cc e in
      let tails : is ++ l ≡ js ++ m = cc e in
      let same : p.0 ≡ q.0 = one_reply s i p.0 q.0 p.2 (rw (← item) at q.2) in
      let rest = runs_once q.0.0 u v is js l m p.3 q.3 (rw same at p.5) q.5 tails f g in
      (rest.0, cc (p.4, q.4, same, rest.1))

  answer_runs : (what : LineOutcome) (s new : State) (reply : Reply) → Open s.phase → IsAnswer feed s what new reply
      → Runs s (item_in what) new (reply_bytes reply)
  answer_runs More s new reply awake is = (is.0, ap reply_bytes is.1)
  answer_runs (Line line) s new reply awake is =
      ((new, reply), awake, is, [], sym (append-nil (reply_bytes reply)), (refl, refl))
  answer_runs TooLong s new reply awake is =
      ((new, reply), awake, is, [], sym (append-nil (reply_bytes reply)), (refl, refl))

  -- What a session comes to in bytes after a stream.
  record Ran (s last : SessionState) (stream bytes way all : List ℕ) : Type 0 where
    items : Items
    left : Items
    items_are : items_in (lines_of (stream ++ bytes)) ≡ items_in (lines_of stream) ++ (items ++ left)
    through : IsThrough last.state left
    out : List ℕ
    runs : Runs s.state items last.state out
    sent : all ≡ way ++ out
    stands : Open last.state.phase → StandsFor last (stream ++ bytes)

  ran : (s last : SessionState) (bytes way all stream : List ℕ) → Serves feed s bytes way last all
      → (Open s.state.phase → StandsFor s stream) → Ran s last stream bytes way all
  ran s last bytes way all stream (none_served u w) stands = record {
    items = [];
    left = [];
    items_are = rw (append-nil stream) (sym (append-nil (items_in (lines_of stream))));
    through = inr refl;
    out = [];
    runs = (refl, refl);
    sent = sym (append-nil w);
    stands = rw (append-nil stream) stands;
  }
  ran s last bytes way all stream (piece_served u now v bs piece others w sent reply split takes more) stands =
      elim (open_or u.state.phase) [
        | inl shut ↦
            let same : (v ≡ u) × (sent ≡ w) = shut_on feed u bs w v sent
            (piece_served u now v bs piece others w sent reply split takes more) shut in
            let further : Grown (lines_of stream) (lines_of (stream ++ bs)) = grown stream bs in
            let still : v.state.phase ≡ Closed = rw same.0 shut in
            record {
              items = [];
              left = further.0;
              items_are = further.1;
              through = inl still;
              out = [];
              runs = (ap (λ (x : SessionState). x.state) same.0, refl);
              sent = same.1 ∙ sym (append-nil w);
              stands = λ awake. absurd (awake still);
            }
        | inr awake ↦
            let answer : Answers feed u.state stream (stream ++ piece) now.state reply =
            takes.answers stream awake (stands awake).0 in
            let rest : Ran now v (stream ++ piece) others (w ++ reply_bytes reply) sent =
            ran now v others (w ++ reply_bytes reply) sent (stream ++ piece) more
            (stands_on feed u now stream piece reply takes awake (stands awake)) in
            let at : stream ++ bs ≡ (stream ++ piece) ++ others =
            ap (λ b. stream ++ b) split ∙ sym (append_assoc stream piece others) in
            let short : (lines_of stream).is_too_long ≡ false = sym (stands awake).0.1 ∙ (stands awake).1 in
            record {
              items = item_in answer.0 ++ rest.items;
              left = rest.left;
              items_are = rw (at, rest.items_are, yields_items answer.0 _ _ short answer.1) (simp append_assoc);
              through = rest.through;
              out = reply_bytes reply ++ rest.out;
              runs = runs_both u.state now.state v.state (item_in answer.0) rest.items (reply_bytes reply) rest.out
                  (answer_runs answer.0 u.state now.state reply awake answer.2) rest.runs;
              sent = rest.sent ∙ append_assoc w (reply_bytes reply) rest.out;
              stands = rw at rest.stands;
            }
      ]

  pub replied_once : (m n a b : Attending) (stream bytes : List ℕ) → AreAlike m n → Open m.session.state.phase
      → StandsFor m.session stream → RepliesToAll feed m a bytes → RepliesToAll feed n b bytes → AreAlike a b
  replied_once m n a b stream bytes alike awake stands p q =
      let r : Ran m.session a.session stream bytes m.written.bytes a.written.bytes =
      ran m.session a.session bytes m.written.bytes a.written.bytes stream p.serves (λ _. stands) in
      let t : Ran n.session b.session stream bytes n.written.bytes b.written.bytes =
      ran n.session b.session bytes n.written.bytes b.written.bytes stream q.serves
      (λ _. rw (alike.held awake) at stands) in
      let both : (a.session.state ≡ b.session.state) × (r.out ≡ t.out) =
      runs_once m.session.state a.session.state b.session.state r.items t.items r.left t.left r.out t.out r.runs
      (subst (λ (z : State). Runs z t.items b.session.state t.out) (sym alike.state) t.runs)
      (append_cancel_left (items_in (lines_of stream)) _ _ (sym r.items_are ∙ t.items_are)) r.through t.through in
      record {
        state = both.0;
        held = λ still. held_same a.session.held b.session.held (stream ++ bytes) (r.stands still).0
            (t.stands (rw both.0 at still)).0;
        bytes = r.sent ∙ (ap (λ z. m.written.bytes ++ z) both.1 ∙ (ap (λ z. z ++ t.out) alike.bytes ∙ sym t.sent));
        failures = p.failures ∙ (alike.failures ∙ sym q.failures);
      }

  -- Where a session was cut off in a reply: what comes before is answered.
  record Cut (s : State) (stream bytes : List ℕ) (x : State × Reply) (way written : List ℕ) : Type 0 where
    before : Items
    item : Option (List ℕ)
    after : Items
    items_are : items_in (lines_of (stream ++ bytes)) ≡ items_in (lines_of stream) ++ (before ++ item ∷ after)
    until : State
    out : List ℕ
    runs : Runs s before until out
    last : IsReplyTo until item x
    sent : written ≡ way ++ out

  -- what is replied to, where some bytes are
  spoken : (what : LineOutcome) (u v : State) (reply : Reply) → IsAnswer feed u what v reply
      → 0 < length (reply_bytes reply) → (i : Option (List ℕ)) × (item_in what ≡ i ∷ []) × IsReplyTo u i (v, reply)
  spoken More u v reply is some = absurd (omega (arith, some, ap (λ r. length (reply_bytes r)) is.1))
  spoken (Line line) u v reply is some = (Some line.items, refl, is)
  spoken TooLong u v reply is some = (None, refl, is)

  cut_of : (m a : Attending) (stream bytes : List ℕ) → StandsFor m.session stream → (p : FailsToReply feed m a bytes)
      → Cut m.session.state stream bytes (a.session.state, p.reply) m.written.bytes p.before.written.bytes
  cut_of m a stream bytes stands p = elim (open_or p.before.session.state.phase) [
    | inl shut ↦ absurd (omega (arith, p.written.part, ap (λ r. length (reply_bytes r)) (p.takes.closed shut).0))
    | inr awake ↦
        let r : Ran m.session p.before.session stream p.prefix m.written.bytes p.before.written.bytes =
        ran m.session p.before.session p.prefix m.written.bytes p.before.written.bytes stream p.replies.serves
        (λ _. stands) in
        let none : r.left ≡ [] = elim r.through [ inl shut ↦ absurd (awake shut) | inr none ↦ none ] in
        let here : StandsFor p.before.session (stream ++ p.prefix) = r.stands awake in
        let answer = p.takes.answers (stream ++ p.prefix) awake here.0 in
        let said = spoken answer.0 p.before.session.state a.session.state p.reply answer.2
        (omega (arith, p.written.part)) in
        let rest = grown ((stream ++ p.prefix) ++ p.piece) p.rest in
        let at : stream ++ bytes ≡ ((stream ++ p.prefix) ++ p.piece) ++ p.rest = rw p.bytes_are (simp append_assoc) in
        record {
          before = r.items;
          item = said.0;
          after = rest.0;
          items_are = rw (
            at,
            rest.1,
            yields_items answer.0 _ _
                (sym here.0.1 ∙ here.1) answer.1,
            r.items_are,
            none,
            said.1,
          ) (simp (append_assoc, append-nil));
          until = p.before.session.state;
          out = r.out;
          runs = r.runs;
          last = said.2;
          sent = r.sent;
        }
  ]

  -- An answer that was cut off is no answer before which another was cut off.
  not_whole : (s v : State) (i j : Option (List ℕ)) (js : Items) (r : State × Reply) (y : List ℕ) (n k : ℕ)
      → IsReplyTo s i r → i ≡ j → Runs s (j ∷ js) v y → n ≡ length y + k → n < length (reply_bytes r.1) → ⊥
  not_whole s v i j js r y n k is item q total part =
      let same : r ≡ q.0 = one_reply s i r q.0 is (rw (← item) at q.2) in
      let size = ap (λ (x : State × Reply). length (reply_bytes x.1)) same in
      omega (arith, part, total, ap length q.4, length-append (reply_bytes q.0.1) q.3, size)

  -- Of two answers that were cut off after as many bytes one and the same was cut off.
  cuts_once : (s u v : State) (is js l m : Items) (i j : Option (List ℕ)) (x y : List ℕ) (r t : State × Reply) (n k : ℕ)
      → Runs s is u x → Runs s js v y → is ++ i ∷ l ≡ js ++ j ∷ m → IsReplyTo u i r → IsReplyTo v j t
      → length x + n ≡ length y + k → n < length (reply_bytes r.1) → k < length (reply_bytes t.1) → (r ≡ t) × (x ≡ y)
  cuts_once s u v [] [] l m i j x y r t n k p q e f g total part short =
      let item : i ≡ j = cc e in
      (one_reply s i r t (rw p.0 at f) (rw (← item, q.0) at g), p.1 ∙ sym q.1)
  cuts_once s u v [] (b ∷ js) l m i j x y r t n k p q e f g total part short =
      let item : i ≡ b = cc e in
      absurd (not_whole s v i b js r y n k (rw p.0 at f) item q (omega (arith, total, ap length p.1)) part)
  cuts_once s u v (a ∷ is) [] l m i j x y r t n k p q e f g total part short =
      let item : j ≡ a = cc e in
      absurd (not_whole s u j a is t x k n (rw q.0 at g) item p (omega (arith, total, ap length q.1)) short)
  cuts_once s u v (a ∷ is) (b ∷ js) l m i j x y r t n k p q e f g total part short =
      let item : a ≡ b = cc e in
      let tails : is ++ i ∷ l ≡ js ++ j ∷ m = cc e in
      let same : p.0 ≡ q.0 = one_reply s a p.0 q.0 p.2 (rw (← item) at q.2) in
      let long : length x ≡ length (reply_bytes q.0.1) + length p.3 =
      ap length (p.4 ∙ ap (λ (z : State × Reply). reply_bytes z.1 ++ p.3) same) ∙ length-append
      (reply_bytes q.0.1) p.3 in
      let sum : length p.3 + n ≡ length q.3 + k =
      omega (arith, total, long, ap length q.4, length-append (reply_bytes q.0.1) q.3) in
      let rest = cuts_once q.0.0 u v is js l m i j p.3 q.3 r t n k (rw same at p.5) q.5 tails f g sum part short in
      (rest.0, cc (p.4, q.4, same, rest.1))

  pub cut_alike : (m n a b : Attending) (stream bytes : List ℕ) → AreAlike m n → Open m.session.state.phase
      → StandsFor m.session stream → (p : FailsToReply feed m a bytes) (q : FailsToReply feed n b bytes)
      → length a.written.bytes ≡ length b.written.bytes → EmittedAlike a b
  cut_alike m n a b stream bytes alike awake stands p q total =
      let x : Cut m.session.state stream bytes (a.session.state, p.reply) m.written.bytes p.before.written.bytes =
      cut_of m a stream bytes stands p in
      let y : Cut m.session.state stream bytes (b.session.state, q.reply) n.written.bytes q.before.written.bytes =
      rw (← alike.state) at (cut_of n b stream bytes (rw (alike.held awake) at stands) q) in
      let sum : length x.out + p.count ≡ length y.out + q.count =
      omega (
        arith,
        total,
        prefix_length p.before.written a.written (reply_bytes p.reply) p.count p.written,
        prefix_length q.before.written b.written (reply_bytes q.reply) q.count q.written,
        ap length x.sent,
        ap length y.sent,
        ap length alike.bytes,
        length-append m.written.bytes x.out,
        length-append n.written.bytes y.out,
      ) in
      let one : ◌≡◌ {A = State × Reply} (a.session.state, p.reply) (b.session.state, q.reply) × (x.out ≡ y.out) =
      cuts_once m.session.state x.until y.until x.before y.before x.after y.after x.item y.item x.out y.out _ _ p.count
      q.count x.runs y.runs (append_cancel_left (items_in (lines_of stream)) _ _ (sym x.items_are ∙ y.items_are)) x.last
      y.last sum p.written.part q.written.part in
      let reply : p.reply ≡ q.reply = ap (λ (k : State × Reply). k.1) one.0 in
      let count : p.count ≡ q.count = omega (arith, sum, ap length one.1) in
      record {
        state = ap (λ (k : State × Reply). k.0) one.0;
        bytes = cc (p.written.bytes, q.written.bytes, x.sent, y.sent, alike.bytes);
        failures = cc (p.written.failures, q.written.failures, p.replies.failures, q.replies.failures);
      }
