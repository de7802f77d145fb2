-- What a client reports over a link, and over one link after another.
use Rattle.std.proofs.Common.{◌≡◌, ℕ, ◌+◌, ◌%◌, ◌^◌, ◌<◌, refl, sym, ap, ◌∙◌, arith, Bool, false}
use Rattle.std.proofs.Common.{◌==◌, ◌&&◌, bytes_eq, if◌then◌else◌, List, [], ◌∷◌, ◌++◌}
use Rattle.std.proofs.Common.{append-nil, length, length-drop, drop, map, slice_range, Option, Some, None}
use Rattle.std.proofs.Common.{option_map}
use Rattle.std.specs.List.{position, position_or_len}
use Rattle.std.proofs.lemmas.List.{length-map}
use Rattle.std.proofs.Math.Seq.{map-set_same}
use Rattle.slink_wire.specs.Place.{Fields}
use Rattle.slink_feed.specs.declared.dialogue.Event.{Event}
use Rattle.slink_feed.specs.declared.dialogue.Stage.{Stage}
use Rattle.slink_feed.specs.declared.dialogue.Wanted.{Wanted}
use Rattle.slink_feed.specs.Cutting.{IsWhole}
use Rattle.slink_feed.specs.Delivered.{Numbered}
use Rattle.slink_feed.specs.Dialogue.{Talk, Wants, Whole, place_of}
use Rattle.slink_feed.specs.Dialogue.{read, is_of_wanted, next_at, next_set}
use Rattle.slink_feed.specs.Dialogue.{to_place}
use Rattle.slink_feed.specs.Dialogue.{heard, want_at}
use Rattle.slink_feed.specs.Holding.{GoOn}
use Rattle.slink_feed.specs.Listening.{AreBrought, Brought, Listening, Reads, events_of, talk_after, event_if_any}
use Rattle.slink_feed.specs.Reported.{AreOf, HasReported, bytes_in, numbers_at, places_of, record_in, records_reported}
use Rattle.slink_feed.proofs.Items.{given_both}
use Rattle.slink_feed.proofs.Numbers.{go_both, step_by}
use Rattle.slink_feed.proofs.Outcomes.{Outcome, ended_quietly, ends, kept_read, outcome, reports}
use Rattle.slink_feed.specs.declared.dialogue.Event.TheVariants as events
use Rattle.slink_wire.specs.Packet.{IsPacket}
use Rattle.std.proofs.lemmas.Option.{unwrap_or-slice_get}

-- a packet's record has 512 bytes
record_long : (packet bytes : List ℕ) → drop 8 packet ≡ bytes → length packet ≡ 520 → length bytes ≡ 512
record_long packet bytes is long = ap length (sym is) ∙ (length-drop 8 packet ∙ omega (arith, long))

-- whether a record is of a station
abbrev is_place : List ℕ → Option Fields → Bool
is_place bytes None = false
is_place bytes (Some p) = bytes_eq (slice_range bytes 8 13) p.station && bytes_eq (slice_range bytes 18 20) p.network

abbrev wanted_fields : Option Wanted → Option Fields
wanted_fields o = option_map (λ (w : Wanted). w.place) o

matched_there : (bytes : List ℕ) (o : Option Wanted) → is_of_wanted bytes o ≡ is_place bytes (wanted_fields o)
matched_there bytes None = refl
matched_there bytes (Some w) = refl

first_place : (bytes : List ℕ) (wants : Wants)
    → position_or_len (is_of_wanted bytes) wants ≡ position_or_len (is_place bytes) (map wanted_fields wants)
first_place bytes [] = refl
first_place bytes (o ∷ wants) = rw (matched_there bytes o, first_place bytes wants) refl

place_there : (wants : Wants) (bytes : List ℕ) → place_of wants bytes ≡ position (is_place bytes) (places_of wants)
place_there wants bytes = rw (first_place bytes wants, length-map wants wanted_fields) refl

-- The same stations carry the same records.
pub place_same : (old new : Wants) (bytes : List ℕ) → places_of new ≡ places_of old
    → place_of new bytes ≡ place_of old bytes
place_same old new bytes same = place_there new bytes
    ∙ (ap (position (is_place bytes)) same ∙ sym (place_there old bytes))

pub of_same : (old new : Wants) (records : List Numbered) → places_of new ≡ places_of old → AreOf new records
    → AreOf old records
of_same old new [] same are = tt
of_same old new (r ∷ rs) same are =
    (are.0, sym (place_same old new r.bytes same) ∙ are.1, of_same old new rs same are.2)

of_both : (wants : Wants) (some more : List Numbered) → AreOf wants some → AreOf wants more → AreOf wants (some ++ more)
of_both wants [] more are too = too
of_both wants (r ∷ rs) more are too = (are.0, are.1, of_both wants rs more are.2 too)

numbers_both : (k : ℕ) (some more : List Numbered)
    → numbers_at k (some ++ more) ≡ numbers_at k some ++ numbers_at k more
numbers_both k some more =
    given_both (numbers_at k) (λ r. if r.place == k then r.number ∷ [] else []) refl (λ r rs. refl) some more

-- nothing more
pub reported_none : (holes : Bool) (wants : Wants) → HasReported holes wants wants []
reported_none holes wants = record { places = refl; are_of = tt; go_on = λ k. refl }

-- one link after another
pub reported_both : (holes : Bool) (old now new : Wants) (some more : List Numbered) → HasReported holes old now some
    → HasReported holes now new more → HasReported holes old new (some ++ more)
reported_both holes old now new some more h too = record {
  places = too.places ∙ h.places;
  are_of = of_both old some more h.are_of (of_same old now more h.places too.are_of);
  go_on = λ k. rw (numbers_both k some more)
      (go_both holes (next_at old k) (next_at now k) (next_at new k) (numbers_at k some) (numbers_at k more) (h.go_on k)
      (too.go_on k));
}

pub places_next : (wants : Wants) (k n : ℕ) (o : Option Wanted) → want_at wants k ≡ o
    → places_of (next_set o wants k n) ≡ places_of wants
places_next wants k n None at = refl
places_next wants k n (Some w) at =
    map-set_same wanted_fields wants k (Some (record { place = w.place; next = Some n })) None
    (sym (ap wanted_fields (sym (unwrap_or-slice_get wants k None) ∙ at)))

reported_by : (t : Talk) (stage : Stage) (w : Whole) (x : Talk × Event) (bytes : List ℕ) → IsWhole stage bytes w
    → Outcome t stage w x → HasReported t.holes t.wants x.0.wants (record_in x.1)
reported_by t stage w x bytes is (reports k n r at packet bears wanted) =
    let whole : IsPacket bytes n r × (length bytes ≡ 520) = rw packet at (rw at at is) in record {
      places = places_next t.wants k ((n + 1) % 2 ^ 24) (want_at t.wants k) refl;
      are_of = (record_long bytes r whole.0.2 whole.1, bears, tt);
      go_on = λ j. rw append-nil (step_by j t stage w x (reports k n r at packet bears wanted));
    }
reported_by t stage w x bytes is (ends ending) = rw (ended_quietly ending).2 (reported_none t.holes t.wants)
reported_by t stage w x bytes is outcome = reported_none t.holes t.wants

-- what a client reports of a whole
pub reported_read : (t : Talk) (bytes : List ℕ) (w : Whole) → IsWhole t.stage bytes w
    → HasReported t.holes t.wants (read t w).0.wants (record_in (read t w).1)
reported_read t bytes w is =
    reported_by (heard w t) t.stage w (read t w) bytes is (outcome (heard w t) t.stage w)

event_alone : (e : Event) → records_reported (event_if_any e) ≡ record_in e
event_alone events.None = refl
event_alone (events.Record k n bytes) = refl
event_alone event = refl

pub records_both : (some more : List Event) → records_reported (some ++ more) ≡ records_reported some ++
    records_reported more
records_both some more = given_both records_reported record_in refl (λ e es. refl) some more

pub bytes_both : (some more : List Numbered) → bytes_in (some ++ more) ≡ bytes_in some ++ bytes_in more
bytes_both some more = given_both bytes_in (λ r. r.bytes) refl (λ r rs. refl) some more

reported_brought : (t : Talk) (bs : List Brought) → AreBrought t bs
    → HasReported t.holes t.wants (talk_after t bs).wants (records_reported (events_of t bs))
reported_brought t [] are = reported_none t.holes t.wants
reported_brought t (b ∷ bs) are =
    let x : Talk × Event = read t b.whole in
    let more : HasReported t.holes x.0.wants (talk_after x.0 bs).wants (records_reported (events_of x.0 bs)) =
    rw (kept_read (heard b.whole t) t.stage b.whole) at (reported_brought x.0 bs are.1) in
    rw (records_both (event_if_any x.1) (events_of x.0 bs), event_alone x.1)
    (reported_both _ _ _ _ _ _ (reported_read t b.bytes b.whole are.0) more)

-- what a client reports a link
pub reported_link : (start : Talk) (stream : List ℕ) (events : List Event) (now : Listening)
    → Reads start stream events now → HasReported start.holes start.wants now.talk.wants (records_reported events)
reported_link start stream events now reads =
    rw (← reads.events_are) at
    (rw (← reads.talk) at (reported_brought start reads.brought reads.are_brought))

-- It stays whether the client goes past holes.
kept_brought : (t : Talk) (bs : List Brought) → (talk_after t bs).holes ≡ t.holes
kept_brought t [] = refl
kept_brought t (b ∷ bs) = kept_brought (read t b.whole).0 bs ∙ kept_read (heard b.whole t) t.stage b.whole

pub kept_link : (start : Talk) (stream : List ℕ) (events : List Event) (now : Listening)
    → Reads start stream events now → now.talk.holes ≡ start.holes
kept_link start stream events now reads = ap (λ (u : Talk). u.holes) reads.talk ∙ kept_brought start reads.brought

-- A new link changes nothing of what is wanted.
pub wants_written : (t : Talk) (o : Option Wanted) → (to_place o 0 t).0.wants ≡ t.wants
wants_written t None = refl
wants_written t (Some w) = refl

go_far : (n : ℕ) (ns : List ℕ) (last : Option ℕ) → n < 2 ^ 24 → GoOn (Some n) ns last
    → last ≡ Some ((n + length ns) % 2 ^ 24)
go_far n [] last short on =
    let same : (n + 0) % 2 ^ 24 ≡ n = omega (arith, short) in on ∙ ap (λ m. Some m) (sym same)
go_far n (m ∷ ns) last short on =
    let same : ((m + 1) % 2 ^ 24 + length ns) % 2 ^ 24 ≡ (n + length (m ∷ ns)) % 2 ^ 24 = omega (arith, on.0) in
    go_far ((m + 1) % 2 ^ 24) ns last (omega arith) on.1 ∙ ap (λ x. Some x) same

-- the number of the records is what a station's number moves by
pub reported_far : (old new : Wants) (records : List Numbered) (k n : ℕ) → HasReported false old new records
    → n < 2 ^ 24
    → next_at old k ≡ Some n
    → next_at new k ≡ Some ((n + length (numbers_at k records)) % 2 ^ 24)
reported_far old new records k n h short at =
    go_far n (numbers_at k records) (next_at new k) short (rw at at (h.go_on k))
