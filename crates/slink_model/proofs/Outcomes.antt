-- What a client makes of the bytes of replies and packets, cut anywhere.
use Rattle.slink_model.proofs.Items.{mark, mark_of, marked}
use Rattle.std.proofs.Common.{◌≡◌, ℕ, ◌+◌, ◌%◌, ◌^◌, inl, inr, refl, sym, ap, subst, ◌∙◌, arith, Bool, true, false}
use Rattle.std.proofs.Common.{List, [], ◌∷◌, ◌++◌, length, take, drop, take_at, drop_at, Option, Some}
use Rattle.std.proofs.Common.{None, codes, bytes_eq, nat_eq, ◌&&◌, ◌||◌, if◌then◌else◌}
use Rattle.std.specs.List.{starts_with}
use Rattle.std.proofs.lemmas.Bool.Decides.{eqb_tells}
use Rattle.std.proofs.lemmas.List.{take-append-le}
use Rattle.std.proofs.lemmas.Slice.Eq.{bytes_eq-Decides}
use Rattle.slink_wire.specs.Packet.{IsPacket, packet_bytes}
use Rattle.slink_wire.proofs.Packets.{one_packet, read_back}
use Rattle.slink_wire.specs.Reply.{line_end}
use Rattle.slink_feed.specs.declared.dialogue.Answer.{Answer}
use Rattle.slink_feed.specs.declared.dialogue.Answer.TheVariants.{Granted, Refusal, Neither}
use Rattle.slink_feed.specs.declared.dialogue.Ending.{Ending}
use Rattle.slink_feed.specs.declared.dialogue.Ending.TheVariants as endings
use Rattle.slink_feed.specs.declared.dialogue.Event.{Event}
use Rattle.slink_feed.specs.declared.dialogue.Event.TheVariants as events
use Rattle.slink_feed.specs.declared.dialogue.Stage.{Stage}
use Rattle.slink_feed.specs.declared.dialogue.Stage.TheVariants.{Station, Number, Packets, Ended}
use Rattle.slink_feed.specs.declared.dialogue.Wanted.{Wanted}
use Rattle.slink_feed.specs.Cutting.{IsWhole}
use Rattle.slink_feed.specs.Dialogue.{Talk, Whole, Reply, Packet, End, Garbage, answer_of, at_packet, place_of, ended}
use Rattle.slink_feed.specs.Dialogue.{event_of, is_ahead, read, read_at, if_wanted, next_at, requests_number}
use Rattle.slink_feed.specs.Dialogue.{foreign_by, heard, requests_place, to_answer, to_place, reported, want_at}
use Rattle.slink_feed.specs.Dialogue.{with_next}
use Rattle.slink_feed.specs.Listening.{Brings, Listening, begun, whole}
use Rattle.slink_feed.proofs.Prefixed.{wanted_reported}
use Rattle.std.proofs.lemmas.Option.{same_Some}
use Rattle.slink_model.specs.Ties.{AreOfPlace, Item, Places, Accepted, Carried, Outcome, ends, says}
use Rattle.slink_model.specs.Ties.{takes, reported_of, waits, way_bytes}
use Rattle.slink_feed.proofs.Prefixed.{packet_long}

quiet_ending : (ending : Ending) → reported_of (event_of ending) ≡ None
quiet_ending endings.End = refl
quiet_ending ending = refl

-- two lists that are joined alike, cut at one station
pub same_cut : (xs ys us vs : List ℕ) → length xs ≡ length us → xs ++ ys ≡ us ++ vs → (xs ≡ us) × (ys ≡ vs)
same_cut xs ys us vs l h = (
  sym (take_at xs ys (length us) l) ∙ (ap (take (length us)) h ∙ take_at us vs (length us) refl),
  sym (drop_at xs ys (length us) l) ∙ (ap (drop (length us)) h ∙ drop_at us vs (length us) refl),
)

bytes_same : (xs ys : List ℕ) → bytes_eq xs ys ≡ true → xs ≡ ys
bytes_same xs ys h = (bytes_eq-Decides xs ys).0 h

only_ok : (t u : Bool) → (if t then Granted else if u then Refusal else Neither) ≡ Granted → t ≡ true
only_ok true u h = refl
only_ok false true h = absurd (let bad : Refusal ≡ Granted = h in cc bad)
only_ok false false h = absurd (let bad : Neither ≡ Granted = h in cc bad)

granted_is : (line : List ℕ) → answer_of line ≡ Granted → line ≡ codes "OK"
granted_is line h = bytes_same _ _ (only_ok _ (starts_with nat_eq line (codes "ERROR")) h)

-- what is stated leaves what is wanted
pub place_written : (o : Option Wanted) (k : ℕ) (t : Talk) → ((to_place o k t).0.wants ≡ t.wants)
    × (reported_of (to_place o k t).1 ≡ None)
place_written None k t = (refl, refl)
place_written (Some w) k t = (refl, refl)

module _ (places : Places) (t : Talk) (bytes way : List ℕ) (new : Listening) (e : Event) (plain : t.holes ≡ false) where
  -- the link is ended
  has_ended : (items : List Item) (ending : Ending) → ended ending t ≡ (new.talk, e) → new.kept ≡ []
      → Outcome t.wants items bytes way new e
  has_ended items ending h none =
      let talk : new.talk ≡ record t { stage = Ended ending } = sym (ap (λ (p : Talk × Event). p.0) h) in
      let event : event_of ending ≡ e = ap (λ (p : Talk × Event). p.1) h in
      ends ending (ap (λ (x : Talk). x.stage) talk) (ap (λ (x : Talk). x.wants) talk) none
      (ap reported_of (sym event) ∙ quiet_ending ending)

  -- only an `OK` begins so
  accepted_first : (items : List Item) → codes "OK" ++ (line_end ++ way) ≡ way_bytes items
      → (rest : List Item) × (items ≡ Accepted ∷ rest) × (way ≡ way_bytes rest)
  accepted_first [] h = absurd (let e : 20299 ≡ 0 = ap (λ b. mark_of (take 2 b)) h in omega (arith, e))
  accepted_first (Accepted ∷ rest) h = (rest, refl, ap (drop 4) h)
  accepted_first (i ∷ rest) h =
      absurd (let e : 20299 ≡ mark i = ap (λ b. mark_of (take 2 b)) h ∙ marked i rest in omega (arith, e))

  -- only a packet begins so
  first_carried : (items : List Item) (n : ℕ) (r : List ℕ) → AreOfPlace places items → IsPacket bytes n r
      → length bytes ≡ 520
      → bytes ++ way ≡ way_bytes items → take 2 (way_bytes items) ≡ codes "SL"
      → (k m : ℕ) × (rest : List Item) × (items ≡ Carried k m r ∷ rest) × (way ≡ way_bytes rest) × (n ≡ m % 2 ^ 24)
  first_carried [] n r are is long h prefix = absurd (let e : 0 ≡ 21324 = ap mark_of prefix in omega (arith, e))
  first_carried (Carried k m x ∷ rest) n r are is long h prefix =
      let cut = same_cut bytes way (packet_bytes (m % 2 ^ 24) x) (way_bytes rest)
      (long ∙ sym (packet_long (m % 2 ^ 24) x are.0.2)) h in
      let one = one_packet bytes n (m % 2 ^ 24) r x is
      (subst (λ b. IsPacket b (m % 2 ^ 24) x) (sym cut.0) (read_back (m % 2 ^ 24) x (omega arith))) in
      (k, m, rest, ap (λ y. Carried k m y ∷ rest) (sym one.1), cut.1, one.0)
  first_carried (i ∷ rest) n r are is long h prefix =
      absurd (let e : mark i ≡ 21324 = sym (marked i rest) ∙ ap mark_of prefix in omega (arith, e))

  carried_first : (items : List Item) (n : ℕ) (r : List ℕ) → AreOfPlace places items → IsPacket bytes n r
      → length bytes ≡ 520
      → bytes ++ way ≡ way_bytes items
      → (k m : ℕ) × (rest : List Item) × (items ≡ Carried k m r ∷ rest) × (way ≡ way_bytes rest) × (n ≡ m % 2 ^ 24)
  carried_first items n r are is long h =
      first_carried items n r are is long h (sym (ap (take 2) h)
      ∙ (take-append-le 2 bytes way (omega (arith, long)) ∙ is.0))

  -- a reply that is read, where an `OK` is answered by a line
  has_reply : (items : List Item) (line : List ℕ) (k : ℕ) (next : Talk × Event) (a : Answer) → answer_of line ≡ a
      → bytes ≡ line ++ line_end → bytes ++ way ≡ way_bytes items
      → (next.0.wants ≡ t.wants) × (reported_of next.1 ≡ None) → to_answer a k next t ≡ (new.talk, e) → new.kept ≡ []
      → Outcome t.wants items bytes way new e
  has_reply items line k next Granted a is h quiet read none =
      let ok : line ≡ codes "OK" = granted_is line a in
      let top : (rest : List Item) × (items ≡ Accepted ∷ rest) × (way ≡ way_bytes rest) =
      accepted_first items (ap (λ xs. (xs ++ line_end) ++ way) (sym ok) ∙ (ap (λ xs. xs ++ way) (sym is) ∙ h)) in
      says top.0 top.1 top.2 (ap (λ (p : Talk × Event). p.0.wants) (sym read) ∙ quiet.0) none
      (ap (λ (p : Talk × Event). reported_of p.1) (sym read) ∙ quiet.1)
  has_reply items line k next Refusal a is h quiet read none = has_ended items (endings.Refused k) read none
  has_reply items line k next Neither a is h quiet read none = has_ended items (endings.Unanswered k) read none

  has_reported : (items : List Item) (n j : ℕ) (r : List ℕ) (k m : ℕ) (rest : List Item) → items ≡ Carried k m r ∷ rest
      → way ≡ way_bytes rest → n ≡ m % 2 ^ 24 → place_of t.wants r ≡ Some j
      → ((w : ℕ) → next_at t.wants j ≡ Some w → n ≡ w) → reported j n r t ≡ (new.talk, e) → new.kept ≡ []
      → Outcome t.wants items bytes way new e
  has_reported items n j r k m rest is left number at wanted read none =
      let wants = sym (ap (λ (p : Talk × Event). p.0.wants) read) in
      let event : e ≡ events.Record j n r = sym (ap (λ (p : Talk × Event). p.1) read) in
      takes k j m r rest is left at (λ w next. sym number ∙ wanted w next)
      (wants ∙ ap (λ x. with_next t.wants j ((x + 1) % 2 ^ 24)) number) none
      (ap reported_of event ∙ ap (λ x. Some (record { index = j; number = x; bytes = r })) number)

  -- a packet of a station that is there
  has_wanted : (items : List Item) (n j : ℕ) (r : List ℕ) (k m : ℕ) (rest : List Item) (o : Option ℕ)
      → items ≡ Carried k m r ∷ rest → way ≡ way_bytes rest → n ≡ m % 2 ^ 24 → place_of t.wants r ≡ Some j
      → next_at t.wants j ≡ o
      → if_wanted o j n r t ≡ (new.talk, e) → new.kept ≡ [] → Outcome t.wants items bytes way new e
  has_wanted items n j r k m rest None is left number at next read none =
      has_reported items n j r k m rest is left number at (λ w some. absurd (let bad = sym next ∙ some in
      cc bad)) read none
  has_wanted items n j r k m rest (Some want) is left number at next read none = elim (eqb_tells n want) [
    | inl same ↦ has_reported items n j r k m rest is left number at
        (λ w some. same.1 ∙ same_Some want w (sym next ∙ some))
        (sym (wanted_reported (Some want) j n r t same.1) ∙ read) none
    | inr other ↦ has_ended items (endings.Gap j want n) (ap (λ (b : Bool). if b then reported j n r t else ended
        (endings.Gap j want n) t) (sym (ap (λ (x : Bool). x || (t.holes && is_ahead want n)) other.0
        ∙ ap (λ (h : Bool). false || (h && is_ahead want n)) plain)) ∙ read) none
  ]

  -- a packet that is read
  has_packet : (items : List Item) (n : ℕ) (r : List ℕ) (o : Option ℕ) → AreOfPlace places items → IsPacket bytes n r
      → length bytes ≡ 520 → bytes ++ way ≡ way_bytes items → place_of t.wants r ≡ o
      → at_packet o n r t ≡ (new.talk, e) → new.kept ≡ [] → Outcome t.wants items bytes way new e
  has_packet items n r None are is long h at read none = has_ended items (foreign_by r) read none
  has_packet items n r (Some j) are is long h at read none =
      let top = carried_first items n r are is long h in
      has_wanted items n j r top.0 top.1 top.2 (next_at t.wants j) top.3 top.4 top.5 at refl read none

  has_whole : (stage : Stage) (items : List Item) (w : Whole) → AreOfPlace places items → bytes ++ way ≡ way_bytes items
      → IsWhole stage bytes w → read_at stage t w ≡ (new.talk, e) → new.kept ≡ []
      → Outcome t.wants items bytes way new e
  has_whole (Station k) items (Reply line) are h is read none =
      has_reply items line k (requests_number k t) (answer_of line) refl is.0 h (refl, refl) read none
  has_whole (Station k) items Garbage are h is read none = has_ended items (endings.Unanswered k) read none
  has_whole (Number k) items (Reply line) are h is read none =
      has_reply items line k (requests_place (k + 1) t) (answer_of line) refl is.0 h
      (place_written (want_at t.wants (k + 1)) (k + 1) t) read none
  has_whole (Number k) items Garbage are h is read none = has_ended items (endings.Unanswered k) read none
  has_whole Packets items (Packet n r) are h is read none =
      has_packet items n r (place_of t.wants r) are is.0 is.1 h refl read none
  has_whole Packets items End are h is read none = has_ended items endings.End read none
  has_whole Packets items Garbage are h is read none = has_ended items endings.Garbage read none
  has_whole stage items w are h is read none = absurd is

-- what comes of bytes, with those that were kept
pub outcome : (places : Places) (t : Talk) (bytes way : List ℕ) (new : Listening) (e : Event) → t.holes ≡ false →
    (items : List Item)
    → AreOfPlace places items → bytes ++ way ≡ way_bytes items → Brings t bytes new e
    → Outcome t.wants items bytes way new e
outcome places t bytes way new e plain items are h (whole w is read none) =
    has_whole places (heard w t) bytes way new e plain t.stage items w are h is read none
outcome places t bytes way new e plain items are h (begun is same quiet) =
    waits (ap (λ (x : Listening). x.talk.wants) same) (ap (λ (x : Listening). x.kept) same) (ap reported_of quiet)
