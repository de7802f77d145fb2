-- A step of a session comes to one thing.
use Rattle.std.proofs.Common.{◌≡◌, ℕ, ◌+◌, ◌≤◌, ◌<◌, ◌⊎◌, zero, suc, inl, inr, refl, sym, ap, ◌∙◌, arith}
use Rattle.std.proofs.Common.{◌-◌, List, [], ◌∷◌, ◌++◌, append-nil}
use Rattle.std.proofs.Common.{length}
use Rattle.std.proofs.Common.{length-append, replicate, take, Option, Some, None}
use Rattle.std.proofs.lemmas.Bool.Decides.{leb_tells, nat_tests}
use Rattle.std.proofs.lemmas.List.{append_cancel_left, nil_from_length}
use Rattle.mseed_stream.specs.Device.{BytesRead}
use Rattle.slink_wire.proofs.Prefixes.{prefixes}
use Rattle.slink_feed.specs.declared.grant.Grant.{Grant}
use Rattle.slink_feed.specs.declared.session.Phase.{Phase}
use Rattle.slink_feed.specs.declared.session.Phase.TheVariants.{Streaming}
use Rattle.slink_feed.specs.declared.session.Sent.{Sent}
use Rattle.slink_feed.specs.declared.session.Sent.TheVariants as sents
use Rattle.slink_feed.specs.declared.turn.LinkFault.{LinkFault}
use Rattle.slink_feed.specs.declared.turn.LinkFault.TheVariants as faults
use Rattle.slink_feed.specs.declared.turn.Turn.{Turn}
use Rattle.slink_feed.specs.Attending.{Attends, GoesOn, IsServeFault, at_read, at_reply}
use Rattle.slink_feed.specs.Attending.{at_send, is_at_end, is_closed, replies}
use Rattle.slink_feed.specs.Connection.{AreAlike, EmittedAlike}
use Rattle.slink_feed.specs.Rounds.{Attending, FailsToSend, Gives, HasWaited, SendsAll, all_sent, place_after}
use Rattle.slink_feed.specs.Running.{Stands, StandsFor}
use Rattle.slink_feed.specs.Serving.{SessionState}
use Rattle.slink_feed.specs.Session.{State, grant_at, sent, sent_bytes, sent_in}
use Rattle.slink_feed.specs.Session.{sent_of}
use Rattle.slink_feed.specs.Turns.{read_once}
use Rattle.slink_feed.specs.Window.{Window}
use Rattle.slink_feed.proofs.Calls.{idle}
use Rattle.slink_feed.proofs.Connected.{Still, all_still, open_given, shut_still, still_given}
use Rattle.slink_feed.proofs.OneReply.{cut_alike, replied_once}
use Rattle.slink_feed.proofs.Sendoffs.{all_joined, place_within}

still_waits : (feed : List Window) (s : State) (k : ℕ) → (sent feed s k).1 ≡ sents.Wait → Still feed s k
still_waits feed s k waits = ((idle feed s k waits).0, ap sent_bytes waits)

-- Without stations there is nothing to give.
still_of : (s : State) (k : ℕ) (o : Option Grant) → ((sent_of [] s k o None).0 ≡ s)
    × (sent_bytes (sent_of [] s k o None).1 ≡ [])
still_of s k None = (refl, refl)
still_of s k (Some g) = (refl, refl)

still_in : (p : Phase) (s : State) (k : ℕ) → ((sent_in p [] s k).0 ≡ s) × (sent_bytes (sent_in p [] s k).1 ≡ [])
still_in Streaming s k = still_of s k (grant_at s.grants k)
still_in phase s k = (refl, refl)

gives_split : (feed : List Window) (k last : ℕ) (s v : State) (some more : List Sent)
    → Gives feed k s (some ++ more) last v → (p : ℕ) × (u : State) × Gives feed k s some p u
    × Gives feed p u more last v
gives_split feed k last s v [] more gives = (k, s, (refl, refl), gives)
gives_split feed k last s v (a ∷ some) more gives =
    let rest = gives_split feed (place_after feed k) last (sent feed s k).0 v some more gives.1 in
    (rest.0, rest.1, (gives.0, rest.2), rest.3)

within_given : (feed : List Window) (k last : ℕ) (s u : State) (given : List Sent) → k < length feed
    → Gives feed k s given last u → last < length feed
within_given feed k last s u [] lt gives = omega (arith, lt, gives.0)
within_given feed k last s u (a ∷ more) lt gives =
    within_given feed (place_after feed k) last (sent feed s k).0 u more (place_within feed k lt) gives.1

-- A round in which each station has nothing to give.
module _ (feed : List Window) where
  waits_next : (m p last : ℕ) (u v : State) → Gives feed p u (replicate (suc m) sents.Wait) last v
      → Gives feed (place_after feed p) u (replicate m sents.Wait) last v
  waits_next m p last u v gives = rw (idle feed u p gives.0).0 at gives.1

  waits_stay : (m p last : ℕ) (u v : State) → Gives feed p u (replicate m sents.Wait) last v → v ≡ u
  waits_stay zero p last u v gives = gives.1
  waits_stay (suc m) p last u v gives = waits_stay m (place_after feed p) last u v (waits_next m p last u v gives)

  -- a station comes so many after another
  abbrev IsAfter : ℕ → ℕ → ℕ → Type 0
  IsAfter p d k = (p + d ≡ k) ⊎ (p + d ≡ k + length feed)

  after_next : (p d k : ℕ) → p < length feed → k < length feed → IsAfter p (suc d) k → IsAfter (place_after feed p) d k
  after_next p d k within lt far = grind (arith, nat_tests)

  waits_at : (m d p last k : ℕ) (u v : State) → Gives feed p u (replicate m sents.Wait) last v → p < length feed
      → k < length feed → d < m → IsAfter p d k → (sent feed u k).1 ≡ sents.Wait
  waits_at zero d p last k u v gives within lt few far = absurd (omega (arith, few))
  waits_at (suc m) zero p last k u v gives within lt few far =
      let same : p ≡ k = omega (arith, far, within) in rw same at gives.0
  waits_at (suc m) (suc d) p last k u v gives within lt few far =
      waits_at m d (place_after feed p) last k u v (waits_next m p last u v gives) (place_within feed p within) lt
      (omega (arith, few)) (after_next p d k within lt far)

  waits_all : (p last k : ℕ) (u v : State) → Gives feed p u (replicate (length feed) sents.Wait) last v
      → p < length feed → k < length feed → (sent feed u k).1 ≡ sents.Wait
  waits_all p last k u v gives within lt = elim (leb_tells p k) [
    | inl above ↦ waits_at (length feed) (k - p) p last k u v gives within lt (omega (arith, lt))
        (inl (omega (arith, above.1)))
    | inr below ↦ waits_at (length feed) (k + length feed - p) p last k u v gives within lt (omega (arith, below.1))
        (inr (omega (arith, within)))
  ]

-- What comes once nothing was given in a round.
round_over : (feed : List Window) (s v w : State) (p last : ℕ) (given rest : List Sent) → HasWaited (length feed) given
    → Gives feed 0 s given p v → Gives feed p v rest last w → (w ≡ v) × (all_sent rest ≡ [])
round_over [] s v w p last given rest waited gives more =
    all_still [] v (λ k. still_in v.phase v k) p last w rest more
round_over (ring ∷ rings) s v w p last given rest waited gives more =
    let feed : List Window = ring ∷ rings in
    let parts = gives_split feed 0 p s v waited.0 (replicate (length feed) sents.Wait)
    (rw waited.1 at gives) in
    let some : 0 < length feed = omega arith in
    let within : parts.0 < length feed = within_given feed 0 parts.0 s parts.1 waited.0 some parts.2 in
    let same : v ≡ parts.1 = waits_stay feed (length feed) parts.0 p parts.1 v parts.3 in
    let still : (k : ℕ) → k < length feed → Still feed v k =
    λ k lt. still_waits feed v k (ap (λ (t : State). (sent feed t k).1) same
    ∙ waits_all feed parts.0 p k parts.1 v parts.3 within lt) in
    still_given feed v (λ k. k < length feed) (λ k lt. place_within feed k lt) still p last w rest
    (within_given feed 0 p s v given some gives) more

abbrev NothingMore : List Window → ℕ → State → Type 0
NothingMore feed p v = (last : ℕ) (w : State) (rest : List Sent) → Gives feed p v rest last w
    → (w ≡ v) × (all_sent rest ≡ [])

nothing_more : (feed : List Window) (old a : Attending) (sends : SendsAll feed old a)
    → NothingMore feed sends.place a.session.state
nothing_more feed old a sends last w rest more = elim sends.ends [
  | inl shut ↦ all_still feed a.session.state (shut_still feed a.session.state shut) sends.place last w rest more
  | inr waited ↦ round_over _ _ _ _ _ _ _ _ waited sends.gives more
]

-- Of two runs of calls one goes on with the other.
abbrev GoesFurther : List Window → List Sent → ℕ → State → List Sent → ℕ → State → Type 0
GoesFurther feed some p u more q v = (rest : List Sent) × (more ≡ some ++ rest) × Gives feed p u rest q v

one_run : (feed : List Window) (k p q : ℕ) (s u v : State) (a b : List Sent) → Gives feed k s a p u
    → Gives feed k s b q v → GoesFurther feed a p u b q v ⊎ GoesFurther feed b q v a p u
one_run feed k p q s u v [] b x y = inl (b, refl, rw (x.0, x.1) y)
one_run feed k p q s u v (a ∷ more) [] x y = inr (a ∷ more, refl, rw (y.0, y.1) x)
one_run feed k p q s u v (a ∷ more) (b ∷ others) x y =
    elim (one_run feed (place_after feed k) p q (sent feed s k).0 u v more others x.1 y.1) [
      | inl far ↦ inl (far.0, cc (far.1, x.0, y.0), far.2)
      | inr far ↦ inr (far.0, cc (far.1, x.0, y.0), far.2)
    ]

ended_alike : (feed : List Window) (p q : ℕ) (u v : State) (a b : List Sent) → NothingMore feed p u
    → GoesFurther feed a p u b q v → (v ≡ u) × (all_sent b ≡ all_sent a)
ended_alike feed p q u v a b over far =
    let none : (v ≡ u) × (all_sent far.0 ≡ []) = over q v far.0 far.2 in
    (none.0, ap all_sent far.1 ∙ (all_joined a far.0 ∙ (ap (λ x. all_sent a ++ x) none.1 ∙ append-nil (all_sent a))))

pub sent_once : (feed : List Window) (old a b : Attending) → SendsAll feed old a → SendsAll feed old b → AreAlike a b
sent_once feed old a b p q =
    let both : (a.session.state ≡ b.session.state) × (all_sent p.given ≡ all_sent q.given) =
    elim (one_run _ _ _ _ _ _ _ _ _ p.gives q.gives) [
      | inl far ↦ (let one : (b.session.state ≡ a.session.state)
          × (all_sent q.given ≡ all_sent p.given) =
          ended_alike _ _ _ _ _ _ _ (nothing_more _ _ _ p) far in (sym one.0, sym one.1))
      | inr far ↦ ended_alike _ _ _ _ _ _ _ (nothing_more _ _ _ q) far
    ] in
    record {
      state = both.0;
      held = λ awake. p.held ∙ sym q.held;
      bytes = p.written.bytes ∙ (ap (λ x. old.written.bytes ++ x) both.1 ∙ sym q.written.bytes);
      failures = p.written.failures ∙ sym q.written.failures;
    }

-- A link that failed at a write accepted no more than what came before and a part of that.
-- the first of two such runs isn't shorter
failed_alike : (feed : List Window) (p q n : ℕ) (u v : State) (a given : List Sent) (last : Sent)
    → n < length (all_sent a) → length (all_sent given) ≤ n → GoesFurther feed a p u (given ++ last ∷ []) q v
    → (v ≡ u) × (all_sent (given ++ last ∷ []) ≡ all_sent a)
failed_alike feed p q n u v a given last part beyond ([], same, more) = (more.1, ap all_sent (same ∙ append-nil a))
failed_alike feed p q n u v a given last part beyond (x ∷ rest, same, more) =
    absurd (elim (prefixes a given (x ∷ rest) (last ∷ []) (sym same)) [
      | inl far ↦
          omega (
            arith,
            part,
            beyond,
            ap (λ g. length (all_sent g)) far.1,
            ap length (all_joined a far.0),
            length-append (all_sent a) (all_sent far.0),
          )
      | inr far ↦
          let none : far.0 ≡ [] = nil_from_length far.0 (omega (
            arith,
            ap length same,
            ap length far.1,
            length-append given (last ∷ []),
            length-append a (x ∷ rest),
            length-append given far.0,
          )) in
          omega (
            arith,
            part,
            beyond,
            ap (λ g. length (all_sent g)) (far.1 ∙ ap (λ g. given ++ g) none
                ∙ append-nil given),
          )
    ])

pub sending_failed_once : (feed : List Window) (old a b : Attending) (n : ℕ) → FailsToSend feed old a n
    → FailsToSend feed old b n → AreAlike a b
sending_failed_once feed old a b n p q =
    let x : List Sent = p.given ++ p.last ∷ [] in
    let y : List Sent = q.given ++ q.last ∷ [] in
    let both : (a.session.state ≡ b.session.state) × (all_sent x ≡ all_sent y) =
    elim (one_run feed 0 p.place q.place old.session.state a.session.state b.session.state x y p.gives q.gives) [
      | inl far ↦ (let one : (b.session.state ≡ a.session.state)
          × (all_sent y ≡ all_sent x) =
          failed_alike _ _ _ n _ _ _ q.given q.last p.written.part q.beyond far in
          (sym one.0, sym one.1))
      | inr far ↦ failed_alike _ _ _ n _ _ _ p.given p.last q.written.part p.beyond far
    ] in
    record {
      state = both.0;
      held = λ awake. p.held ∙ sym q.held;
      bytes = p.written.bytes ∙ (ap (λ bs. old.written.bytes ++ take n bs) both.1 ∙ sym q.written.bytes);
      failures = p.written.failures ∙ sym q.written.failures;
    }

-- What one read reported is reported by what was read.
still_unread : (before : BytesRead) (bytes : List ℕ) → before ≡ read_once before bytes → ⊥
still_unread before bytes e = let calls : before.calls ≡ before.calls + 1 = ap (λ (h : BytesRead). h.calls) e in
    omega (arith, calls)

reported_same : (before : BytesRead) (some more : List ℕ) → read_once before some ≡ read_once before more
    → some ≡ more
reported_same before some more e = append_cancel_left before.bytes some more (ap (λ (h : BytesRead). h.bytes) e)

nothing_reported : (before : BytesRead) (bytes : List ℕ) → 0 < length bytes
    → read_once before [] ≡ read_once before bytes
    → ⊥
nothing_reported before bytes some e = let none : 0 ≡ length bytes = ap length (reported_same before [] bytes e) in
    omega (arith, some, none)

stands_so : (a b : SessionState) (stream : List ℕ) → b.held ≡ a.held → StandsFor a stream → StandsFor b stream
stands_so a b stream same stands = rw same stands

-- Two sessions that began alike, once each has sent what it had to send, and goes on to read.
sent_alike : (feed : List Window) (old m n : Attending) → Stands old.session → GoesOn feed old m → GoesOn feed old n
    → AreAlike m n × ((stream : List ℕ) × StandsFor m.session stream)
sent_alike feed old m n stands g h =
    let some : (stream : List ℕ) × StandsFor old.session stream =
    stands (open_given feed old m g.sends g.open_still) in
    (sent_once feed old m n g.sends h.sends, (some.0, stands_so old.session m.session some.0 g.sends.held some.1))

pub turned_once : (feed : List Window) (old a b : Attending) (before after : BytesRead) (t u : Turn)
    → Stands old.session
    → Attends feed old a before after t → Attends feed old b before after u → (t ≡ u) × AreAlike a b
turned_once feed old a b before after t u stands (is_closed p shut e) (is_closed q over f) =
    (refl, sent_once feed old a b p q)
turned_once feed old a b before after t u stands (is_closed p shut e) (is_at_end h f) =
    absurd (still_unread before [] (sym e ∙ f))
turned_once feed old a b before after t u stands (is_closed p shut e) (replies n more h f some few q) =
    absurd (still_unread before more (sym e ∙ f))
turned_once feed old a b before after t u stands (is_at_end g e) (is_closed q over f) =
    absurd (still_unread before [] (sym f ∙ e))
turned_once feed old a b before after t u stands (is_at_end g e) (is_at_end h f) =
    (refl, sent_once feed old a b g.sends h.sends)
turned_once feed old a b before after t u stands (is_at_end g e) (replies n more h f some few q) =
    absurd (nothing_reported before more some (sym e ∙ f))
turned_once feed old a b before after t u stands (replies m bytes g e some few p) (is_closed q over f) =
    absurd (still_unread before bytes (sym f ∙ e))
turned_once feed old a b before after t u stands (replies m bytes g e some few p) (is_at_end h f) =
    absurd (nothing_reported before bytes some (sym f ∙ e))
turned_once feed old a b before after t u stands (replies m bytes g e some few p) (replies n more h f much short q) =
    let both = sent_alike feed old m n stands g h in (
      refl,
      replied_once feed m n a b both.1.0 bytes both.0 g.open_still both.1.1 p
          (rw (reported_same before more bytes (sym f ∙ e)) at q),
    )

-- A link that failed in a step.
emitted_alike : (a b : Attending) → AreAlike a b → EmittedAlike a b
emitted_alike a b same = record { state = same.state; bytes = same.bytes; failures = same.failures }

pub cut_once : (feed : List Window) (old a b : Attending) (before after : BytesRead) (fault : LinkFault)
    → Stands old.session → IsServeFault feed old a before after fault → IsServeFault feed old b before after fault
    → EmittedAlike a b
cut_once feed old a b before after (faults.Write count) stands (at_send n p e) (at_send m q f) =
    emitted_alike a b (sending_failed_once feed old a b count p q)
cut_once feed old a b before after (faults.Write count) stands (at_send n p e) (at_reply m mid bytes h f few q long) =
    absurd (still_unread before bytes (sym e ∙ f))
cut_once feed old a b before after faults.Read stands (at_read g e) (at_read h f) =
    emitted_alike a b (sent_once feed old a b g.sends h.sends)
cut_once feed old a b before after (faults.Write count) stands (at_reply m mid bytes h f few q long) (at_send n p e) =
    absurd (still_unread before bytes (sym e ∙ f))
cut_once feed old a b before after (faults.Write count) stands (at_reply n mid bytes g e few p long)
    (at_reply m other more h f short q total) =
    let both = sent_alike feed old mid other stands g h in
    cut_alike feed mid other a b both.1.0 bytes both.0 g.open_still both.1.1 p
    (rw (reported_same before more bytes (sym f ∙ e)) at q) (long ∙ sym total)
cut_once feed old a b before after (faults.Output count) stands p q = elim p [ ]
