-- What a client reported the bytes that it accepted so far, event by event.
use Rattle.std.proofs.Common.{◌≡◌, ◌≢◌, ℕ, ◌+◌, ◌-◌, ◌*◌, ◌≤◌, ◌<◌, refl, sym, ap, subst, ◌∙◌, arith, List}
use Rattle.std.proofs.Common.{[], ◌∷◌, ◌++◌, append_assoc, append-nil, length, length-append, length-drop, take}
use Rattle.std.proofs.Common.{take-add, take-append-drop, take_all, drop, length-take, ◌⊎◌, inl, inr}
use Rattle.std.proofs.Math.Seq.{take-append-add}
use Rattle.std.proofs.lemmas.List.{length-take-le, take-append-le, take_rest}
use Rattle.mseed_stream.specs.Device.{BytesRead, IsPrefixOf, BytesWritten}
use Rattle.slink_feed.specs.declared.dialogue.Event.{Event}
use Rattle.slink_feed.specs.declared.dialogue.Event.TheVariants as events
use Rattle.slink_feed.specs.declared.dialogue.Stage.{Stage}
use Rattle.slink_feed.specs.declared.dialogue.Stage.TheVariants.{Unlinked}
use Rattle.slink_feed.specs.declared.fetching.Counts.{Counts}
use Rattle.slink_feed.specs.declared.turn.LinkFault.{LinkFault}
use Rattle.slink_feed.specs.declared.turn.LinkFault.TheVariants as faults
use Rattle.slink_feed.specs.declared.turn.Turn.TheVariants as turns
use Rattle.slink_feed.specs.declared.turn.Turn.{Turn}
use Rattle.slink_feed.specs.private.Delivery.{ComesTo, FailsAtEvent, IsDelivered, IsUndelivered}
use Rattle.slink_feed.specs.Fetching.{Delivers, FailsAt, FailsAtLast, Fetches, Fetching, ReadsOn, Takes, bytes_reported}
use Rattle.slink_feed.specs.Fetching.{IsFetchFault, joined_by, line_written, lines_written, record_reported, turn_after}
use Rattle.slink_feed.specs.Fetching.{turn_at}
use Rattle.slink_feed.specs.Listening.{Brings, IsLinked, Listening, event_if_any}
use Rattle.slink_feed.specs.Turns.{Emitted, EmittedPrefix, read_once}
use Rattle.slink_feed.proofs.Goings.{goes_on, still_linked}
use Rattle.slink_feed.proofs.Items.{given_both}
use Rattle.slink_feed.proofs.Outcomes.{ended_quietly}
use Rattle.slink_feed.proofs.Received.{reads_more}

pub record SoFar (old now : Fetching) (bytes : List ℕ) (offset written_count output_count_is : ℕ) : Type 0 where
  pub reported : List Event
  pub within : offset ≤ length bytes
  pub reads : ReadsOn old.client (take offset bytes) reported now.client
  pub linked : IsLinked old.client.talk.stage → now.client.talk.stage ≢ Unlinked
  pub written : Emitted old.written now.written (lines_written reported)
  pub output : Emitted old.output now.output (bytes_reported reported)
  pub written_counted : written_count ≡ length (lines_written reported)
  pub output_counted : output_count_is ≡ length (bytes_reported reported)
  pub written_few : written_count ≤ 32 * offset
  pub output_few : output_count_is ≤ 512 * offset

-- Reading on, piece after piece.
pub on_none : (c : Listening) → ReadsOn c [] [] c
on_none c start stream before reads = rw (← (append-nil stream)) at (rw (← (append-nil before)) at reads)

pub on_both : (a b c : Listening) (xs ys : List ℕ) (es fs : List Event) → ReadsOn a xs es b → ReadsOn b ys fs c
    → ReadsOn a (xs ++ ys) (es ++ fs) c
on_both a b c xs ys es fs one more start stream before reads =
    rw (← (append_assoc stream xs ys), ← (append_assoc before es fs))
    (more start (stream ++ xs) (before ++ es) (one start stream before reads))

pub emitted_none : (s : BytesWritten) → Emitted s s []
emitted_none s = record { bytes = sym (append-nil s.bytes); failures = refl }

pub emitted_further : (a b c : BytesWritten) (xs ys all : List ℕ) → all ≡ xs ++ ys → Emitted a b xs → Emitted b c ys
    → Emitted a c all
emitted_further a b c xs ys all e one more = record {
  bytes = more.bytes ∙ (ap (λ s. s ++ ys) one.bytes ∙ (append_assoc a.bytes xs ys ∙ ap (λ s. a.bytes ++ s) (sym e)));
  failures = more.failures ∙ one.failures;
}

pub prefix_further : (a b c : BytesWritten) (xs ys all : List ℕ) (count n : ℕ) → all ≡ xs ++ ys → count ≡ length xs + n
    → Emitted a b xs → EmittedPrefix b c ys n → EmittedPrefix a c all count
prefix_further a b c xs ys all count n e is one more = record {
  bytes = rw (e, is, take-append-add xs ys n)
      (more.bytes ∙ (ap (λ s. s ++ take n ys) one.bytes ∙ append_assoc a.bytes xs (take n ys)));
  part = omega (arith, is, more.part, ap length e, length-append xs ys);
  failures = more.failures ∙ ap (λ m. m + 1) one.failures;
}

pub prefix_length : (a b : BytesWritten) (xs : List ℕ) (n : ℕ) → EmittedPrefix a b xs n
    → length b.bytes ≡ length a.bytes + n
prefix_length a b xs n p =
    omega (arith, ap length p.bytes, length-append a.bytes (take n xs), length-take n xs, p.part)

-- what events give, one after another
joined_more : (given : Event → List ℕ) (es fs : List Event)
    → joined_by given (es ++ fs) ≡ joined_by given es ++ joined_by given fs
joined_more given es fs = given_both (joined_by given) given refl (λ e more. refl) es fs

joined_event : (given : Event → List ℕ) (e : Event) → given events.None ≡ []
    → joined_by given (event_if_any e) ≡ given e
joined_event given events.None none = sym none
joined_event given event none = append-nil (given event)

joined_once : (given : Event → List ℕ) (es : List Event) (e : Event) → given events.None ≡ []
    → joined_by given (es ++ event_if_any e) ≡ joined_by given es ++ given e
joined_once given es e none = joined_more given es (event_if_any e)
    ∙ ap (λ s. joined_by given es ++ s) (joined_event given e none)

-- an event that gives something
some_event : (given : Event → List ℕ) (e : Event) → given events.None ≡ [] → 0 < length (given e)
    → event_if_any e ≡ e ∷ []
some_event given events.None none some = absurd (omega (arith, some, ap length none))
some_event given event none some = refl

-- what `take` says of a piece at an offset
pub record IsPiece (now new : Listening) (bytes : List ℕ) (offset used : ℕ) (event : Event) : Type 0 where
  pub linked : IsLinked now.talk.stage
  pub brings : Brings now.talk (now.kept ++ take used (take (length bytes - offset) (drop offset bytes))) new event
  pub reads : ReadsOn now (take used (take (length bytes - offset) (drop offset bytes))) (event_if_any event) new
  pub some : 0 < used
  pub bound : used ≤ length bytes - offset

-- what is received of it is one
pub piece_of : (now new : Listening) (bytes : List ℕ) (offset used : ℕ) (event : Event) → IsLinked now.talk.stage
    → ComesTo event used (take (length bytes - offset) (drop offset bytes)) now new
    → IsPiece now new bytes offset used event
piece_of now new bytes offset used event linked comes = record {
  linked = linked;
  brings = comes.brings;
  reads = λ start stream before. reads_more start stream
      (take used (take (length bytes - offset) (drop offset bytes))) before now new event comes.brings;
  some = comes.some;
  bound = omega (arith, comes.bound, length-drop offset bytes, ap length (take_rest bytes offset));
}

-- what `take` says of bytes of a client that stayed as it was
pub comes_to : (old mid new : Listening) (bytes : List ℕ) (used : ℕ) (event : Event) → mid ≡ old
    → IsLinked old.talk.stage → 0 < length bytes
    → (IsLinked mid.talk.stage → Brings mid.talk (mid.kept ++ take used bytes) new event)
    → (IsLinked mid.talk.stage → 0 < length bytes → 0 < used) → used ≤ length bytes → ComesTo event used bytes old new
comes_to old mid new bytes used event same linked some brings takes bound =
    let still : IsLinked mid.talk.stage = rw same linked in
    rw same at (let comes : ComesTo event used bytes mid new =
    record { brings = brings still; some = takes still some; bound = bound } in comes)

pub take_prefix : (bytes : List ℕ) (n m : ℕ) → take (n + m) bytes ≡ take n bytes ++ take m (drop n bytes)
take_prefix bytes n m = take-add n m bytes

pub piece_is : (bytes : List ℕ) (offset used : ℕ)
    → take offset bytes ++ take used (take (length bytes - offset) (drop offset bytes)) ≡ take (offset + used) bytes
piece_is bytes offset used = ap (λ s. take offset bytes ++ take used s) (take_rest bytes offset)
    ∙ sym (take_prefix bytes offset used)

pub piece_length : (bytes : List ℕ) (offset : ℕ)
    → length (take (length bytes - offset) (drop offset bytes)) ≡ length bytes - offset
piece_length bytes offset = ap length (take_rest bytes offset) ∙ length-drop offset bytes

is_prefix : (bytes : List ℕ) (n : ℕ) → IsPrefixOf (take n bytes) bytes
is_prefix bytes n = (drop n bytes, sym (take-append-drop n bytes))

pub nothing_so_far : (s : Fetching) (bytes : List ℕ) → SoFar s s bytes 0 0 0
nothing_so_far s bytes = record {
  reported = [];
  within = omega arith;
  reads = on_none s.client;
  linked = λ linked e. subst IsLinked e linked;
  written = emitted_none s.written;
  output = emitted_none s.output;
  written_counted = refl;
  output_counted = refl;
  written_few = omega arith;
  output_few = omega arith;
}

module _ (old now new : Fetching) (bytes : List ℕ) (offset used : ℕ) (event : Event) (before : Counts)
    (so_far : SoFar old now bytes offset before.written before.output)
    (piece : IsPiece now.client new.client bytes offset used event) where
  further : ReadsOn old.client (take (offset + used) bytes) (so_far.reported ++ event_if_any event) new.client
  further = rw (← (piece_is bytes offset used))
      (on_both old.client now.client new.client (take offset bytes)
      (take used (take (length bytes - offset) (drop offset bytes))) so_far.reported (event_if_any event) so_far.reads
      piece.reads)

  pub one_more : (after : Counts) → IsDelivered event before after now.written new.written now.output new.output
      → SoFar old new bytes (offset + used) after.written after.output
  one_more after done =
      let lines = joined_once line_written so_far.reported event refl in
      let records = joined_once record_reported so_far.reported event refl in
      record {
        reported = so_far.reported ++ event_if_any event;
        within = omega (arith, so_far.within, piece.bound);
        reads = further;
        linked = λ linked. still_linked now.client.talk
            (now.client.kept ++ take used (take (length bytes - offset) (drop offset bytes))) new.client event
            piece.brings piece.linked;
        written = emitted_further old.written now.written new.written (lines_written so_far.reported)
            (line_written event)
            (lines_written (so_far.reported ++ event_if_any event)) lines so_far.written done.written;
        output = emitted_further old.output now.output new.output (bytes_reported so_far.reported)
            (record_reported event)
            (bytes_reported (so_far.reported ++ event_if_any event)) records so_far.output done.output;
        written_counted = done.written_count ∙ (ap (λ n. n + length (line_written event)) so_far.written_counted
            ∙ (sym (length-append (lines_written so_far.reported) (line_written event)) ∙ ap length (sym lines)));
        output_counted = done.output_count ∙ (ap (λ n. n + length (record_reported event)) so_far.output_counted
            ∙ (sym (length-append (bytes_reported so_far.reported) (record_reported event)) ∙ ap length (sym records)));
        written_few = omega (arith, done.written_count, done.short, so_far.written_few, piece.some);
        output_few = omega (arith, done.output_count, done.sized, so_far.output_few, piece.some);
      }

  takes_last : event_if_any event ≡ event ∷ [] → Takes old.client new.client bytes (so_far.reported ++ event ∷ [])
  takes_last one = record {
    taken = take (offset + used) bytes;
    prefix = is_prefix bytes (offset + used);
    reads = rw one at further;
  }

  -- a device that fails within what the event gives it
  fails_within : (given others : Event → List ℕ) (f g h o p q : BytesWritten) (count_before count : ℕ)
      → given events.None ≡ [] → count_before ≡ length (joined_by given so_far.reported)
      → Emitted f g (joined_by given so_far.reported) → Emitted o p (joined_by others so_far.reported)
      → IsLinked new.client.talk.stage ⊎ (given event ≡ [])
      → FailsAtEvent given event count_before count g h p q
      → FailsAtLast given others old.client new.client bytes count f h o q
  fails_within given others f g h o p q count_before count none counted emitted other linked cut =
      let some : 0 < length (given event) = omega (arith, cut.failing.part) in
      let one : event_if_any event ≡ event ∷ [] = some_event given event none some in
      let joined : joined_by given (so_far.reported ++ event ∷ []) ≡ joined_by given so_far.reported ++ given event =
      ap (λ es. joined_by given (so_far.reported ++ es)) (sym one) ∙ joined_once given so_far.reported event none in
      let total : count ≡ length (joined_by given so_far.reported) + cut.more =
      cut.count_is ∙ ap (λ n. n + cut.more) counted in
      record {
        reported = so_far.reported;
        last = event;
        takes = takes_last one;
        linked = elim linked [ inl on ↦ on | inr quiet ↦ absurd (omega (arith, some, ap length quiet)) ];
        failing = prefix_further f g h (joined_by given so_far.reported) (given event)
            (joined_by given (so_far.reported ++ event ∷ [])) count cut.more joined total emitted cut.failing;
        beyond = omega (arith, total);
        other = rw cut.other other;
      }

  pub fails_here : (fault : LinkFault) → IsUndelivered fault event before now.written new.written now.output new.output
      → FailsAt fault old new bytes
  fails_here faults.Read cut = absurd cut
  fails_here (faults.Write count) cut =
      fails_within line_written record_reported old.written now.written new.written old.output now.output new.output
      before.written count refl so_far.written_counted so_far.written so_far.output
      (goes_on line_written refl (λ e. (ended_quietly e).0) now.client.talk _ new.client event piece.brings) cut
  fails_here (faults.Output count) cut =
      fails_within record_reported line_written old.output now.output new.output old.written now.written new.written
      before.output count refl so_far.output_counted so_far.output so_far.written
      (goes_on record_reported refl (λ e. (ended_quietly e).1) now.client.talk _ new.client event piece.brings) cut

-- nothing is left, or the client takes no more
pub all_delivered : (old now : Fetching) (bytes : List ℕ) (offset written_count output_count_is : ℕ)
    → (IsLinked now.client.talk.stage → length bytes ≤ offset)
    → SoFar old now bytes offset written_count output_count_is
    → Delivers old now bytes
all_delivered old now bytes offset written_count output_count_is ends so_far = record {
  reported = so_far.reported;
  takes = record { taken = take offset bytes; prefix = is_prefix bytes offset; reads = so_far.reads };
  whole = λ linked. take_all offset bytes (ends linked);
  linked = so_far.linked;
  written = so_far.written;
  output = so_far.output;
}

pub nothing_delivered : (s : Fetching) → Delivers s s []
nothing_delivered s = all_delivered s s [] 0 0 0 (λ linked. omega arith) (nothing_so_far s [])

pub closed_turn : (old new : Fetching) (before after : BytesRead) → new ≡ old → after ≡ read_once before []
    → length old.client.kept ≤ 520 → Fetches old new before after turns.Closed
closed_turn old new before after same read most = record {
  bytes = [];
  read = read;
  most = omega (arith, most);
  delivers = rw same (nothing_delivered old);
  nothing = λ none. same;
  turn_is = refl;
}

-- A step that read some bytes, and what came of them.
at_some : (bytes : List ℕ) (stage : Stage) → 0 < length bytes → turn_at stage ≡ turn_after bytes stage
at_some [] stage some = absurd (omega (arith, some))
at_some (b ∷ bytes) stage some = refl

-- What was read stands at the front of the room.
module _ (old now new : Fetching) (before after : BytesRead) (n lack : ℕ) (front rest room : List ℕ) (same : now ≡ old)
    (read : after ≡ read_once before (take n front)) (some : n ≢ 0) (within : n ≤ length front)
    (long : length front ≡ length (take lack room)) (lacks : lack + length old.client.kept ≡ 520) where
  few : length (take n front) + length old.client.kept ≤ 520
  few = omega (arith, within, long, lacks, length-take-le n front within, length-take lack room)

  pub front_delivered : (turn : Turn) → Delivers now new (take n (front ++ rest))
      → turn ≡ turn_at new.client.talk.stage → Fetches old new before after turn
  front_delivered turn delivers is =
      let any : 0 < length (take n front) = omega (arith, some, length-take-le n front within) in
      record {
        bytes = take n front;
        read = read;
        most = few;
        delivers = rw same at (rw (take-append-le n front rest within) at delivers);
        nothing = λ none. absurd (omega (arith, any, ap length none));
        turn_is = is ∙ at_some (take n front) new.client.talk.stage any;
      }

  pub front_cut : (fault : LinkFault) → FailsAt fault now new (take n (front ++ rest))
      → IsFetchFault fault old new before after
  front_cut faults.Read fails = absurd fails
  front_cut (faults.Write count) fails =
      record {
        bytes = take n front;
        read = read;
        most = few;
        fails = rw same at (rw (take-append-le n front rest within)
            at fails);
      }
  front_cut (faults.Output count) fails =
      record {
        bytes = take n front;
        read = read;
        most = few;
        fails = rw same at (rw (take-append-le n front rest within)
            at fails);
      }
