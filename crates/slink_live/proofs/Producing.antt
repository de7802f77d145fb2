-- What a link is sent, by slink_feed's laws.
use Rattle.std.proofs.Common.{◌≡◌, ◌≢◌, ◌⊎◌, ℕ, ◌∙◌, ap, subst, refl, sym, inl, inr, List, [], ◌∷◌, ◌++◌, length}
use Rattle.std.proofs.Common.{append_assoc, append-nil, take, Option, Some, None, slice_get}
use Rattle.std.proofs.Math.Seq.{take-append_seam}
use Rattle.std.proofs.lemmas.List.Elements.{filter-append}
use Rattle.slink_wire.specs.declared.lines.LineOutcome.{LineOutcome}
use Rattle.slink_wire.specs.declared.reply.Reply.{Reply}
use Rattle.slink_wire.specs.Lines.{IsHeld}
use Rattle.slink_wire.specs.Reply.{reply_bytes}
use Rattle.slink_feed.specs.declared.session.Phase.{Phase}
use Rattle.slink_feed.specs.declared.session.Phase.TheVariants.{Fresh, Streaming, Closed}
use Rattle.slink_feed.specs.declared.session.Sent.{Sent}
use Rattle.slink_feed.specs.Connection.{bytes_sent}
use Rattle.slink_feed.specs.Running.{HasStream}
use Rattle.slink_feed.specs.Sending.{AreCalled, AreShown, Called, IsReadFrom}
use Rattle.slink_feed.specs.Serving.{IsAnswer, Serves, SessionState, Takes, none_served, piece_served}
use Rattle.slink_feed.specs.Session.{State, sent, sent_bytes, sent_in}
use Rattle.slink_feed.specs.Window.{Shows, Window}
use Rattle.slink_feed.proofs.Connected.{on_sent, read_further, reply_none}
use Rattle.slink_feed.proofs.Sendings.{IsOn, answer_read, read_on, slice_sent}
use Rattle.slink_feed.proofs.Stands.{closed_or, open_before}
use Rattle.slink_feed.specs.Intake.{places_of}
use Rattle.slink_live.specs.Happening.{Happening, input_of, piece_of}
use Rattle.slink_live.specs.Input.{IsFed, IsInput, fed}
use Rattle.slink_live.specs.History.{Asks, IsServed, History, history, none_called, one_called, no_event, elsewhere}
use Rattle.slink_live.specs.History.{opens, receives, asks, takes, goes}
use Rattle.slink_live.specs.Slices.{ProducesSlices, all_replies, is_first, records_at, replies_alone, streams}
use Rattle.slink_live.proofs.Inputs.{input_grows}
use Rattle.slink_live.proofs.Rings.{shows_fed}
use Rattle.slink_live.proofs.Slots.{input_last}

-- Called again and again, it stands where any further calls go on.
abbrev CalledTo : State → List Called → State → Type 0
CalledTo s xs t = (more : List Called) → AreCalled t more → AreCalled s (xs ++ more)

read_first : (s t : State) (more : List Called) → IsReadFrom s t → AreCalled t more → AreCalled s more
read_first s t [] read are = tt
read_first s t (a ∷ more) read are = (are.0, read_further s t are.0 read are.1, are.2, are.3)

called_last : (s : State) (xs : List Called) {t u : State} (a : Called) → CalledTo s xs t
    → sent a.feed t a.place ≡ (u, a.answer) → CalledTo s (xs ++ a ∷ []) u
called_last s xs {t = t} a to e more are = rw (append_assoc xs (a ∷ []) more) (to (a ∷ more) (
  t,
  inl refl,
  ap (λ (x : State × Sent). x.1) e,
  subst (λ (u : State). AreCalled u more) (sym (ap (λ (x : State × Sent). x.0) e)) are,
))

bytes_last : (xs : List Called) (a : Called) → bytes_sent (xs ++ a ∷ []) ≡ bytes_sent xs ++ sent_bytes a.answer
bytes_last [] a = append-nil (sent_bytes a.answer)
bytes_last (x ∷ xs) a = rw (bytes_last xs a) (sym (append_assoc (sent_bytes x.answer) _ _))

replies_last : (rs : List Reply) (r : Reply) → all_replies (rs ++ r ∷ []) ≡ all_replies rs ++ reply_bytes r
replies_last [] r = append-nil (reply_bytes r)
replies_last (x ∷ rs) r = rw (replies_last rs r) (sym (append_assoc (reply_bytes x) _ _))

-- whether a session streams
streams_or : (p : Phase) → (p ≡ Streaming) ⊎ (p ≢ Streaming)
streams_or Streaming = inl refl
streams_or phase = inr (λ e. cc e)

-- it sends nothing unless it does
quiet_in : (p : Phase) (feed : List Window) (s : State) (k : ℕ) → p ≢ Streaming
    → ((sent_in p feed s k).0 ≡ s) × (sent_bytes (sent_in p feed s k).1 ≡ [])
quiet_in Streaming feed s k off = absurd (off refl)
quiet_in phase feed s k off = (refl, refl)

-- Whatever the input gives after these bytes, each call was of rings that show the last of its records so far.
abbrev AreShownBy : List Window → List ℕ → List Called → Type 0
AreShownBy start bytes xs = (more : List ℕ) (records : List (List ℕ)) (rest : List ℕ) (k first : ℕ) (w : Window)
    (pushed : List (List ℕ)) → IsInput (places_of start) (bytes ++ more) records rest → slice_get start k ≡ Some w
    → Shows w first pushed → AreShown k first (pushed ++ records_at k (places_of start) records) xs

-- what a session came to, and what it sent
data Produced (start : List Window) (log : List Happening) (t : State) (produced : List ℕ) : Type 0 where
  only_replies : (rs : List Reply) → t.phase ≢ Streaming → produced ≡ all_replies rs → Produced start log t produced
  has_streamed : (rs : List Reply) (s : State) (xs : List Called) → s.phase ≡ Streaming → CalledTo s xs t
      → IsOn t.phase → AreShownBy start (input_of log) xs → produced ≡ all_replies rs ++ bytes_sent xs
      → Produced start log t produced

shown_last : (k first : ℕ) (records : List (List ℕ)) (xs : List Called) (a : Called) → AreShown k first records xs
    → ((w : Window) × (n : ℕ) × (slice_get a.feed k ≡ Some w) × Shows w first (take n records))
    → AreShown k first records (xs ++ a ∷ [])
shown_last k first records [] a are one = (one, tt)
shown_last k first records (x ∷ xs) a are one = (are.0, shown_last k first records xs a are.1 one)

module _ (start : List Window) where
  shown_more : (bytes piece : List ℕ) (xs : List Called) → AreShownBy start bytes xs
      → AreShownBy start (bytes ++ piece) xs
  shown_more bytes piece xs shown more records rest k first w pushed input =
      shown (piece ++ more) records rest k first w pushed (rw (append_assoc bytes piece more) at input)

  called_shown : (bytes : List ℕ) (xs : List Called) (a : Called) → IsFed start bytes a.feed
      → AreShownBy start bytes xs → AreShownBy start bytes (xs ++ a ∷ [])
  called_shown bytes xs a fed shown more records rest k first w pushed input here shows =
      let at : List (List ℕ) → List (List ℕ) = records_at k (places_of start) in
      let grown = input_grows (places_of start) bytes more fed.1.records records fed.0 rest fed.1.input input in
      let ring = shows_fed start fed.1.records k first w pushed here shows in
      let so_far : List (List ℕ) = pushed ++ at fed.1.records in
      let all : pushed ++ at records ≡ so_far ++ at grown.0 =
      ap (λ rs. pushed ++ at rs) grown.1
      ∙ (ap (λ rs. pushed ++ rs) (filter-append (is_first k (places_of start)) fed.1.records grown.0)
      ∙ sym (append_assoc pushed (at fed.1.records) (at grown.0))) in
      shown_last k first (pushed ++ at records) xs a (shown more records rest k first w pushed input here shows) (
        ring.0,
        length so_far,
        rw fed.1.feed_is ring.1,
        rw (all, take-append_seam so_far (at grown.0)) ring.2,
      )

  produced_more : {log now : List Happening} (h : Happening) {t : State} {produced : List ℕ} → now ≡ log ++ h ∷ []
      → Produced start log t produced → Produced start now t produced
  produced_more h e (only_replies rs off is) = only_replies rs off is
  produced_more {log} h e (has_streamed rs s xs begun to on shown is) = has_streamed rs s xs begun to on
      (rw (e, input_last log h) (shown_more (input_of log) (piece_of h) xs shown)) is

  -- a reply before it streams
  before_produced : {log : List Happening} {old : State} (new : State) (r : Reply) {produced : List ℕ}
      → old.phase ≢ Streaming → old.phase ≢ Closed → Produced start log old produced
      → Produced start log new (produced ++ reply_bytes r)
  before_produced new r {produced} off alive (only_replies rs o eq) =
      let all : produced ++ reply_bytes r ≡ all_replies (rs ++ r ∷ []) = rw eq (sym (replies_last rs r)) in
      elim (streams_or new.phase) [
        | inl on ↦ has_streamed (rs ++ r ∷ []) new [] on (λ more are. are) (inl on)
            (λ more records rest k first w pushed input here shows. tt)
            (all ∙ sym (append-nil (all_replies (rs ++ r ∷ []))))
        | inr still_off ↦ only_replies (rs ++ r ∷ []) still_off all
      ]
  before_produced {old = old} new r off alive (has_streamed rs s xs begun to on shown eq) =
      absurd (elim on [ inl is_on ↦ off is_on | inr shut ↦ alive shut ])

  streaming_produced : {log : List Happening} (feed : List Window) {old new : State} (what : LineOutcome) (r : Reply)
      {produced : List ℕ} → old.phase ≡ Streaming → IsAnswer feed old what new r → Produced start log old produced
      → Produced start log new (produced ++ reply_bytes r)
  streaming_produced feed what r on is (only_replies rs off eq) = absurd (off on)
  streaming_produced feed {old} {new} what r {produced} on is (has_streamed rs s xs begun to o shown eq) =
      let moved : IsReadFrom old new = answer_read feed old new what r on is in
      has_streamed rs s xs begun (λ more are. to more (read_first old new more moved are)) (read_on old new moved o)
      shown (rw (reply_none feed old new what r on is) (append-nil produced ∙ eq))

  abbrev ProducedOf : List Happening → SessionState → List ℕ → Type 0
  ProducedOf log t produced = Produced start log t.state produced × HasStream t

  -- a line is answered
  takes_at : {log : List Happening} {feed : List Window} {old new : SessionState} {piece : List ℕ} {r : Reply}
      {produced : List ℕ} → Takes feed old piece new r → ProducedOf log old produced
      → ProducedOf log new (produced ++ reply_bytes r)
  takes_at {log} {feed} {old} {new} {piece} {r} {produced} t h = elim (closed_or old.state.phase) [
    | inl shut ↦ rw ((t.closed shut).0, (t.closed shut).1, append-nil produced) h
    | inr alive ↦
        let held : IsHeld old.held h.1.0 = h.1.1 alive in
        let is = t.answers h.1.0 alive held in (
          elim (streams_or old.state.phase) [
            | inl on ↦ streaming_produced feed is.0 r on is.2 h.0
            | inr off ↦ before_produced new.state r off alive h.0
          ],
          (h.1.0 ++ piece, λ x. t.held h.1.0 alive held),
        )
  ]

  -- lines are answered
  serves_produced : {log : List Happening} {feed : List Window} {s last : SessionState} {bytes produced all : List ℕ}
      → Serves feed s bytes produced last all → ProducedOf log s produced → ProducedOf log last all
  serves_produced (none_served t w) h = h
  serves_produced (piece_served t now u bs piece rest w a r split taking more) h =
      serves_produced more (takes_at taking h)

  -- a packet is requested
  sends_on : {log : List Happening} {feed : List Window} {old new : State} (k : ℕ) {answer : Sent} {produced : List ℕ}
      → old.phase ≡ Streaming → IsFed start (input_of log) feed → sent feed old k ≡ (new, answer)
      → Produced start log old produced → Produced start log new (produced ++ sent_bytes answer)
  sends_on k on fed e (only_replies rs off eq) = absurd (off on)
  sends_on {log} {feed} {old} {new} k {answer} on fed e
      (has_streamed rs s xs begun to o shown eq) =
      let a : Called = record { feed = feed; place = k; answer = answer } in
      has_streamed rs s (xs ++ a ∷ []) begun (called_last s xs a to e)
      (subst (λ (x : State × Sent). IsOn x.0.phase) e (on_sent feed old k (inl on)))
      (called_shown (input_of log) xs a fed shown)
      (rw (eq, bytes_last xs a) (append_assoc (all_replies rs) (bytes_sent xs) (sent_bytes answer)))

  called_at : {log : List Happening} {feed : List Window} {old new : State} (k : ℕ) {answer : Sent} {produced : List ℕ}
      → IsFed start (input_of log) feed → sent feed old k ≡ (new, answer) → Produced start log old produced
      → Produced start log new (produced ++ sent_bytes answer)
  called_at {log} {feed} {old} k {produced = produced} fed e h = elim (streams_or old.phase) [
    | inl on ↦ sends_on k on fed e h
    | inr off ↦ let quiet = quiet_in old.phase feed old k off in
        subst (λ (x : State × Sent). Produced start log x.0 (produced ++ sent_bytes x.1)) e
        (rw (quiet.0, quiet.1, append-nil produced) h)
  ]

  asks_produced : {log : List Happening} {feed : List Window} {s : SessionState} {ring : ℕ} {produced : List ℕ}
      {last : SessionState} {turn : ℕ} {all : List ℕ} → IsFed start (input_of log) feed
      → Asks feed s ring produced last turn all → ProducedOf log s produced → ProducedOf log last all
  asks_produced is_fed none_called h = h
  asks_produced {feed = feed} is_fed (one_called now t m k answer on a before first given held is) h =
      let earlier = asks_produced is_fed before h in (
        rw is (called_at k is_fed given earlier.0),
        (earlier.1.0, λ alive. rw held (earlier.1.1 (open_before feed now.state t.state k answer given alive))),
      )

  -- the history of a slot
  abbrev Yields : List Happening → Option History → Type 0
  Yields log None = Unit {0}
  Yields log (Some t) = ProducedOf log t.session t.produced

  history_more : (log now : List Happening) (h : Happening) (o : Option History) → now ≡ log ++ h ∷ [] → Yields log o
      → Yields now o
  history_more log now h None e x = tt
  history_more log now h (Some t) e x = (produced_more h e x.0, x.1)

  history_sends : {k : ℕ} {log : List Happening} {o : Option History} → IsServed start k log o → Yields log o
  history_sends no_event = tt
  history_sends (elsewhere before now h x s other e) = history_more before now h x e (history_sends s)
  history_sends (opens before now s served fresh e) = (
    only_replies [] (λ on. let bad : Fresh ≡ Streaming = sym (ap (λ (x : State). x.phase) fresh.state) ∙ on in cc bad)
        refl,
    ([], λ alive. fresh.held),
  )
  history_sends (receives before now feed s new ring bytes produced all emitted served fed serves e) =
      history_more before now _ (Some (history new ring all emitted)) e (serves_produced serves (history_sends served))
  history_sends (asks now feed s new ring turn produced all emitted served fed called) =
      asks_produced fed called (history_sends served)
  history_sends (takes before now s ring bytes produced emitted served prefix e) =
      history_more before now _ (Some (history s ring produced (emitted ++ bytes))) e (history_sends served)
  history_sends (goes before now x served e) = tt

  says : (log : List Happening) (records : List (List ℕ)) (rest : List ℕ) (t : State) (produced : List ℕ)
      → IsInput (places_of start) (input_of log) records rest → Produced start log t produced
      → ProducesSlices start records produced
  says log records rest t produced input (only_replies rs off is) = replies_alone rs is
  says log records rest t produced input (has_streamed rs s xs begun to on shown is) =
      let are : AreCalled s xs = rw append-nil at (to [] tt) in
      streams rs s xs begun are is (λ k first w pushed g here shows granted. slice_sent k first
      (pushed ++ records_at k (places_of start) records) xs s g (inl begun) granted are
      (shown [] records rest k first w pushed (rw (append-nil (input_of log)) input) here shows))

  pub link_sends : (k : ℕ) (log : List Happening) (t : History) (records : List (List ℕ)) (rest : List ℕ)
      → IsServed start k log (Some t) → IsInput (places_of start) (input_of log) records rest
      → ProducesSlices start records t.produced
  link_sends k log t records rest served input =
      says log records rest t.session.state t.produced input (history_sends served).0
