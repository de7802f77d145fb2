-- Turns with a link, one after another, and links one after another.
use Rattle.std.proofs.Common.{Bool, ◌≡◌, ℕ, ◌+◌, ◌<◌, ◌≤◌, inl, inr, refl, sym, ap, subst, ◌∙◌, arith, List, []}
use Rattle.std.proofs.Common.{◌∷◌, ◌++◌, append_assoc, append-nil, length, length-append, take, Option, Some, None}
use Rattle.std.proofs.Common.{Result, Ok, Err}
use Rattle.mseed_stream.specs.Device.{BytesRead, IsPrefixOf, BytesWritten, nothing_read, nothing_written}
use Rattle.mseed_stream.specs.Exchanges.{Exchange, exchange}
use Rattle.slink_feed.specs.declared.dialogue.Ending.{Ending}
use Rattle.slink_feed.specs.declared.dialogue.Ending.TheVariants as endings
use Rattle.slink_feed.specs.declared.dialogue.Event.{Event}
use Rattle.slink_feed.specs.declared.dialogue.Stage.{Stage}
use Rattle.slink_feed.specs.declared.dialogue.Stage.TheVariants.{Unlinked, Ended}
use Rattle.slink_feed.specs.declared.dialogue.Wanted.{Wanted}
use Rattle.slink_feed.specs.declared.turn.LinkFault.{LinkFault}
use Rattle.slink_feed.specs.declared.turn.LinkFault.TheVariants as faults
use Rattle.slink_feed.specs.declared.turn.Turn.{Turn}
use Rattle.slink_feed.specs.Delivered.{Numbered}
use Rattle.slink_feed.specs.Dialogue.{Talk, Wants, requests_place, to_place, want_at}
use Rattle.slink_feed.specs.Fetching.{Delivers, FailsToWriteLine, FailsToWrite, Fetches, IsFetchFault}
use Rattle.slink_feed.specs.Fetching.{ReadsOn, TakesTurn, bytes_reported, fetching, line_written, lines_written}
use Rattle.slink_feed.specs.Fetching.{joined_by, record_reported, turn_after, turn_of}
use Rattle.slink_feed.specs.Listening.{IsLinked, Listening, Reads}
use Rattle.slink_feed.specs.Reported.{HasReported, bytes_in, record_in, records_reported}
use Rattle.slink_feed.specs.Turns.{Emitted, EmittedPrefix}
use Rattle.slink_feed.specs.Reports.{Outputs, Reports, TakesRecords, all, but_last}
use Rattle.slink_feed.proofs.Deliveries.{on_both, on_none}
use Rattle.slink_feed.proofs.Numbers.{kept_place}
use Rattle.slink_feed.proofs.OneReading as one
use Rattle.slink_feed.proofs.Reporting.{all_taken, line_alone, record_alone, record_bytes, handed_over_both}
use Rattle.slink_feed.proofs.Reporting.{handed_over_none, takes_both, takes_none}
use Rattle.slink_feed.proofs.ReportedOver.{bytes_both, records_both, reported_both, reported_far}
use Rattle.slink_feed.proofs.ReportedOver.{reported_none, wants_written}
use Rattle.slink_links.specs.declared.fetching.FetchEnd.{FetchEnd}
use Rattle.slink_links.specs.declared.fetching.FetchEnd.TheVariants.{Done, Refused, BadFeed, WriteFailed, LinkFailed}
use Rattle.slink_links.specs.Fetched.{AreTaken, HasFetched, HasReadLink, HasReadLinks, HasTurned}
use Rattle.slink_links.specs.Fetched.{WasFetchedOver}
use Rattle.slink_links.specs.Fetched.{HaveMoved, IsBad, IsFetchedOver, IsReading, IsUnended, Reaches, ReachesBy}
use Rattle.slink_links.specs.Fetched.{FetchesReporting, end_by, failures_by, over_none, over_one_more, over_the_last}

-- What a sink accepted, stated of an equal list.
pub emitted_as : (a b : BytesWritten) (xs ys : List ℕ) → b.bytes ≡ a.bytes ++ xs → b.failures ≡ a.failures → xs ≡ ys
    → Emitted a b ys
emitted_as a b xs ys bytes fine same = subst (Emitted a b) same (record { bytes = bytes; failures = fine })

pub emitted_prefix_as : (a b : BytesWritten) (xs ys : List ℕ) (n : ℕ) → b.bytes ≡ a.bytes ++ take n xs → n < length xs
    → b.failures ≡ a.failures + 1 → xs ≡ ys → EmittedPrefix a b ys n
emitted_prefix_as a b xs ys n bytes within failed same =
    subst (λ zs. EmittedPrefix a b zs n) same (record { bytes = bytes; part = within; failures = failed })

-- the bytes of the records that events report
reported_bytes : (es : List Event) → bytes_reported es ≡ bytes_in (records_reported es)
reported_bytes [] = refl
reported_bytes (e ∷ es) = rw (record_bytes e, reported_bytes es, bytes_both (record_in e) (records_reported es))

joined_last : (given : Event → List ℕ) (es : List Event) (e : Event)
    → joined_by given (es ++ e ∷ []) ≡ joined_by given es ++ given e
joined_last given [] e = append-nil (given e)
joined_last given (x ∷ es) e = rw (joined_last given es e, append_assoc (given x) (joined_by given es) (given e))

-- the last event gives something, where a device failed within what it gives
some_last : (given : Event → List ℕ) (es : List Event) (e : Event) (n : ℕ)
    → n < length (joined_by given (es ++ e ∷ [])) → length (joined_by given es) ≤ n → 0 < length (given e)
some_last given es e n part beyond = omega (
  arith,
  ap length (joined_last given es e),
  length-append (joined_by given es) (given e),
)

records_last : (es : List Event) (e : Event) → records_reported (es ++ e ∷ []) ≡ records_reported es ++ record_in e
records_last es e = records_both es (e ∷ []) ∙ ap (λ rs. records_reported es ++ rs) (append-nil (record_in e))

-- a line that wasn't taken whole
unwritten_none : (es : List Event) (e : Event) (n : ℕ) → n < length (lines_written (es ++ e ∷ []))
    → length (lines_written es) ≤ n → records_reported (es ++ e ∷ []) ≡ records_reported es
unwritten_none es e n part beyond =
    records_last es e ∙ rw (line_alone e (some_last line_written es e n part beyond), append-nil (records_reported es))

-- a record that wasn't taken whole
left_unwritten : (es : List Event) (e : Event) (n : ℕ) (old new : BytesWritten)
    → EmittedPrefix old new (bytes_reported (es ++ e ∷ [])) n
    → length (bytes_reported es) ≤ n → TakesRecords (records_reported (es ++ e ∷ [])) old new
left_unwritten es e n old new emitted beyond =
    let last = record_alone e (some_last record_reported es e n emitted.part beyond) in
    but_last (records_reported es) last.0 n (records_last es e ∙ ap (λ rs. records_reported es ++ rs) last.1)
    (omega (arith, beyond, ap length (reported_bytes es))) (rw (reported_bytes (es ++ e ∷ [])) at emitted)

-- By no bytes nothing changes.
same_by_none : (old new : Listening) (reported : List Event) → IsReading old → ReadsOn old [] reported new → new ≡ old
same_by_none old new reported reading on =
    let again : Reads reading.0 reading.1 (reading.2 ++ reported) new =
    rw (append-nil reading.1) at (on reading.0 reading.1 reading.2 reading.3) in
    sym (one.one_reading reading.0 reading.1 reading.2 (reading.2 ++ reported) old new reading.3 again).1

no_prefix : (xs ys : List ℕ) → IsPrefixOf xs ys → ys ≡ [] → xs ≡ []
no_prefix [] ys prefix none = refl
no_prefix (x ∷ xs) ys prefix none = cc

linked_unended : (stage : Stage) → IsLinked stage → IsUnended stage
linked_unended (Ended ending) linked = absurd linked
linked_unended stage linked = tt

some_end : (end : FetchEnd) → Some end ≡ None → ⊥
some_end end e = cc

-- By a step that no device failed in, the client goes on, has reached an end, or is to have another link. While there
-- is no end its link goes on.
record Turned (end : Option FetchEnd) (stage : Stage) (old new : Listening) : Type 0 where
  reached : ReachesBy end old new
  goes : end ≡ None → IsLinked stage
  fine : failures_by end ≡ 0

bad_feed : (ending : Ending) (stage : Stage) (old new : Listening) → new.talk.stage ≡ Ended ending → IsBad ending
    → Turned (Some BadFeed) stage old new
bad_feed ending stage old new at bad =
    record { reached = (ending, at, bad); goes = λ e. absurd (some_end BadFeed e); fine = refl }

stopped : (ending : Ending) (stage : Stage) (old new : Listening) → new.talk.stage ≡ Ended ending
    → Turned (end_by (Ok (turn_of ending))) stage old new
stopped endings.End stage old new at = record { reached = at; goes = λ e. absurd (some_end Done e); fine = refl }
stopped (endings.Refused k) stage old new at =
    record { reached = (k, at); goes = λ e. absurd (some_end Refused e); fine = refl }
stopped (endings.Gap k want got) stage old new at = bad_feed (endings.Gap k want got) stage old new at tt
stopped (endings.Unanswered k) stage old new at = bad_feed (endings.Unanswered k) stage old new at tt
stopped endings.Garbage stage old new at = bad_feed endings.Garbage stage old new at tt
stopped (endings.Foreign sta net) stage old new at = bad_feed (endings.Foreign sta net) stage old new at tt

turn_ends : (bytes : List ℕ) (stage : Stage) (old new : Listening) → new.talk.stage ≡ stage → ¬ (stage ≡ Unlinked)
    → (bytes ≡ [] → IsUnended new.talk.stage) → Turned (end_by (Ok (turn_after bytes stage))) stage old new
turn_ends [] stage old new at some unended =
    record { reached = inl (unended refl); goes = λ e. absurd (some_end LinkFailed e); fine = refl }
turn_ends (b ∷ bs) Unlinked old new at some unended = absurd (some refl)
turn_ends (b ∷ bs) (Ended ending) old new at some unended = stopped ending (Ended ending) old new at
turn_ends (b ∷ bs) stage old new at some unended =
    record { reached = subst IsLinked (sym at) tt; goes = λ e. tt; fine = refl }

-- What a link gave is taken whole while there is no end.
prefix_taken : (end : Option FetchEnd) (before after : BytesRead) (bytes taken : List ℕ)
    → after.bytes ≡ before.bytes ++ bytes → IsPrefixOf taken bytes → (end ≡ None → taken ≡ bytes)
    → AreTaken end taken before after
prefix_taken end before after bytes taken read prefix whole = record {
  prefix = (prefix.0, read ∙ (ap (λ xs. before.bytes ++ xs) prefix.1 ∙ sym (append_assoc before.bytes taken prefix.0)));
  whole = λ goes. read ∙ ap (λ xs. before.bytes ++ xs) (sym (whole goes));
}

none_taken : (end : Option FetchEnd) (before after : BytesRead) → after.bytes ≡ before.bytes
    → AreTaken end [] before after
none_taken end before after same = prefix_taken end before after [] [] (same ∙ sym (append-nil before.bytes)) ([], refl)
    (λ goes. refl)

taken_both : (end : Option FetchEnd) (a b c : BytesRead) (xs ys : List ℕ) → AreTaken None xs a b → AreTaken end ys b c
    → AreTaken end (xs ++ ys) a c
taken_both end a b c xs ys p q =
    let joined : b.bytes ++ ys ≡ a.bytes ++ (xs ++ ys) = rw (p.whole refl) (append_assoc a.bytes xs ys) in
    record { prefix = (q.prefix.0, rw joined at q.prefix.1); whole = λ goes. q.whole goes ∙ joined }

unended_none : (old new : Listening) (bytes taken : List ℕ) (reported : List Event) → IsReading old
    → IsUnended old.talk.stage → ReadsOn old taken reported new → IsPrefixOf taken bytes → bytes ≡ []
    → IsUnended new.talk.stage
unended_none old new bytes taken reported reading unended on prefix none =
    rw (← same_by_none old new reported reading (rw (no_prefix taken bytes prefix none) at on)) at unended

turned_ok : (turn : Turn) (old new : Listening) (s0 s1 w0 w1 : BytesWritten) (h0 h1 : BytesRead)
    → Fetches (fetching old s0 w0) (fetching new s1 w1) h0 h1 turn → IsReading old → IsLinked old.talk.stage
    → HasTurned (end_by (Ok turn)) old new h0 h1 w0 w1
turned_ok turn old new s0 s1 w0 w1 h0 h1 f reading linked =
    let d : Delivers (fetching old s0 w0) (fetching new s1 w1) f.bytes = f.delivers in
    let emitted : Emitted w0 w1 (bytes_in (records_reported d.reported)) = rw (reported_bytes d.reported) at d.output in
    let ends = turn_ends f.bytes new.talk.stage old new refl (d.linked linked)
    (unended_none old new f.bytes d.takes.taken d.reported reading (linked_unended old.talk.stage linked)
    d.takes.reads d.takes.prefix) in
    rw f.turn_is (record {
      bytes = d.takes.taken;
      taken = prefix_taken (end_by (Ok (turn_after f.bytes new.talk.stage))) h0 h1 f.bytes d.takes.taken
          (ap (λ (h : BytesRead). h.bytes) f.read) d.takes.prefix (λ goes. d.whole (ends.goes goes));
      reported = d.reported;
      reads = d.takes.reads;
      emitted = all emitted;
      reached = ends.reached;
      failures = emitted.failures ∙ omega (arith, ends.fine);
    })

turned_err : (fault : LinkFault) (old new : Listening) (s0 s1 w0 w1 : BytesWritten) (h0 h1 : BytesRead)
    → IsFetchFault fault (fetching old s0 w0) (fetching new s1 w1) h0 h1 → IsReading old → IsLinked old.talk.stage
    → HasTurned (end_by (Err fault)) old new h0 h1 w0 w1
turned_err faults.Read old new s0 s1 w0 w1 h0 h1 f reading linked =
    let client : new ≡ old = ap (λ x. x.client) f.0 in
    let output : w1 ≡ w0 = ap (λ x. x.output) f.0 in record {
      bytes = [];
      taken = none_taken (Some LinkFailed) h0 h1 (ap (λ (h : BytesRead). h.bytes) f.1);
      reported = [];
      reads = subst (ReadsOn old [] []) (sym client) (on_none old);
      emitted = subst (TakesRecords [] w0) (sym output) (takes_none w0);
      reached = inl (rw (← client) at (linked_unended old.talk.stage linked));
      failures = ap (λ (w : BytesWritten). w.failures) output ∙ omega arith;
    }
turned_err (faults.Write n) old new s0 s1 w0 w1 h0 h1 f reading linked =
    let x : FailsToWriteLine (fetching old s0 w0) (fetching new s1 w1) f.bytes n = f.fails in
    let emitted : Emitted w0 w1 (bytes_in (records_reported x.reported)) = rw (reported_bytes x.reported) at x.other in
    record {
      bytes = x.takes.taken;
      taken = prefix_taken (Some LinkFailed) h0 h1 f.bytes x.takes.taken (ap (λ (h : BytesRead). h.bytes) f.read)
          x.takes.prefix (λ goes. absurd (some_end LinkFailed goes));
      reported = x.reported ++ x.last ∷ [];
      reads = x.takes.reads;
      emitted = rw (unwritten_none x.reported x.last n x.failing.part x.beyond) (all emitted);
      reached = inl (linked_unended new.talk.stage x.linked);
      failures = emitted.failures ∙ omega arith;
    }
turned_err (faults.Output n) old new s0 s1 w0 w1 h0 h1 f reading linked =
    let x : FailsToWrite (fetching old s0 w0) (fetching new s1 w1) f.bytes n = f.fails in record {
      bytes = x.takes.taken;
      taken = prefix_taken (Some WriteFailed) h0 h1 f.bytes x.takes.taken (ap (λ (h : BytesRead). h.bytes) f.read)
          x.takes.prefix (λ goes. absurd (some_end WriteFailed goes));
      reported = x.reported ++ x.last ∷ [];
      reads = x.takes.reads;
      emitted = left_unwritten x.reported x.last n w0 w1 x.failing x.beyond;
      reached = linked_unended new.talk.stage x.linked;
      failures = x.failing.failures;
    }

-- what one step comes to
pub turned : (r : Result Turn LinkFault) (end : Option FetchEnd) → end ≡ end_by r → (old new : Listening)
    (s0 s1 w0 w1 : BytesWritten) (h0 h1 : BytesRead) → TakesTurn r (fetching old s0 w0) (fetching new s1 w1) h0 h1
    → IsReading old → IsLinked old.talk.stage → HasTurned end old new h0 h1 w0 w1
turned (Ok turn) end is old new s0 s1 w0 w1 h0 h1 takes reading linked =
    rw is (turned_ok turn old new s0 s1 w0 w1 h0 h1 takes.ok reading linked)
turned (Err e) end is old new s0 s1 w0 w1 h0 h1 takes reading linked =
    rw is (turned_err e old new s0 s1 w0 w1 h0 h1 takes.fault reading linked)

-- no step yet
pub turned_none : (now : Listening) (read : BytesRead) (written : BytesWritten) → IsLinked now.talk.stage
    → HasTurned None now now read read written written
turned_none now read written linked = record {
  bytes = [];
  taken = none_taken None read read refl;
  reported = [];
  reads = on_none now;
  emitted = takes_none written;
  reached = linked;
  failures = omega arith;
}

reached_after : (end : FetchEnd) (a b c : Listening) → Reaches LinkFailed a b → Reaches end b c → Reaches end a c
reached_after LinkFailed a b c before (inl there) = inl there
reached_after LinkFailed a b c before (inr same) = rw same before
reached_after end a b c before reached = reached

reached_on : (end : Option FetchEnd) (a b c : Listening) → IsLinked b.talk.stage → ReachesBy end b c → ReachesBy end a c
reached_on None a b c linked reached = reached
reached_on (Some end) a b c linked reached = reached_after end a b c (inl (linked_unended b.talk.stage linked)) reached

-- one step after another
pub turned_both : (end : Option FetchEnd) (a b c : Listening) (h i j : BytesRead) (s t u : BytesWritten)
    → HasTurned None a b h i s t → HasTurned end b c i j t u → HasTurned end a c h j s u
turned_both end a b c h i j s t u p q =
    let emitted = all_taken (records_reported p.reported) s t p.emitted (p.failures ∙ omega arith) in record {
      bytes = p.bytes ++ q.bytes;
      taken = taken_both end h i j p.bytes q.bytes p.taken q.taken;
      reported = p.reported ++ q.reported;
      reads = on_both a b c p.bytes q.bytes p.reported q.reported p.reads q.reads;
      emitted = rw (records_both p.reported q.reported)
          (takes_both s t u (records_reported p.reported) (records_reported q.reported) emitted q.emitted);
      reached = reached_on end a b c p.reached q.reached;
      failures = omega (arith, p.failures, q.failures);
    }

-- as many steps as there may be
pub turned_out : (a b : Listening) (h i : BytesRead) (s t : BytesWritten) → HasTurned None a b h i s t
    → HasTurned (Some LinkFailed) a b h i s t
turned_out a b h i s t p = record {
  bytes = p.bytes;
  taken = record { prefix = p.taken.prefix; whole = λ goes. absurd (some_end LinkFailed goes) };
  reported = p.reported;
  reads = p.reads;
  emitted = p.emitted;
  reached = inl (linked_unended b.talk.stage p.reached);
  failures = p.failures;
}

pub turned_reading : (end : Option FetchEnd) (a b : Listening) (h i : BytesRead) (s t : BytesWritten) → IsReading a
    → HasTurned end a b h i s t → IsReading b
turned_reading end a b h i s t reading p =
    (reading.0, reading.1 ++ p.bytes, reading.2 ++ p.reported, p.reads reading.0 reading.1 reading.2 reading.3)

-- A new link changes nothing of what is wanted.
written_linked : (t : Talk) (o : Option Wanted) → IsLinked (to_place o 0 t).0.stage
written_linked t None = tt
written_linked t (Some w) = tt

pub record Connected (old new : Talk) : Type 0 where
  pub linked : IsLinked new.stage
  pub wants : new.wants ≡ old.wants
  pub holes : new.holes ≡ old.holes

connected_first : (old : Talk) → Connected old (requests_place 0 old).0
connected_first old = record {
  linked = written_linked old (want_at old.wants 0);
  wants = wants_written old (want_at old.wants 0);
  holes = kept_place 0 old (want_at old.wants 0);
}

pub connected : (old new : Talk) (event : Event) → requests_place 0 old ≡ (new, event) → Connected old new
connected old new event says = rw (ap (λ p. p.0) says) at (connected_first old)

moved_by : (holes : Bool) (old new : Wants) (records : List Numbered) → HasReported holes old new records
    → HaveMoved holes old new records
moved_by holes old new records reported plain k n short at =
    reported_far old new records k n (rw plain at reported) short at

-- a link, from its first byte on: its records are those that were reported
pub fetched_reporting : (end : FetchEnd) (old now new : Listening) (event : Event) (h i : BytesRead) (a b : Outputs)
    → requests_place 0 old.talk ≡ (now.talk, event) → HasTurned (Some end) now new h i a.output b.output
    → Reports now.talk new.talk a b → FetchesReporting end old new a b
fetched_reporting end old now new event h i a b says p q =
    let c = connected old.talk now.talk event says in
    let reported : HasReported old.talk.holes old.talk.wants new.talk.wants q.records =
    rw (c.holes, c.wants) at q.reported in record {
      fetched = record {
        records = q.records;
        reported = reported;
        moved = moved_by old.talk.holes old.talk.wants new.talk.wants q.records reported;
        holes = q.holes ∙ c.holes;
        emitted = q.handed_over.emitted;
        reached = reached_after end old now new (inl (linked_unended now.talk.stage c.linked)) p.reached;
        failures = p.failures;
      };
      handed_over = q.handed_over;
    }

pub read_link : (end : FetchEnd) (old now new : Listening) (event : Event) (h i : BytesRead) (s t : BytesWritten)
    → requests_place 0 old.talk ≡ (now.talk, event) → Reads now.talk [] [] now → HasTurned (Some end) now new h i s t
    → HasReadLink old new h i s t
read_link end old now new event h i s t says reads p = record {
  begun = now;
  line = event;
  begins = says;
  bytes = p.bytes;
  prefix = p.taken.prefix;
  reported = p.reported;
  reads = p.reads now.talk [] [] reads;
  emitted = p.emitted;
}

-- no link yet
pub fetched_none : (now : Listening) (a : Outputs) → FetchesReporting LinkFailed now now a a
fetched_none now a = record {
  fetched = record {
    records = [];
    reported = reported_none now.talk.holes now.talk.wants;
    moved = moved_by now.talk.holes now.talk.wants now.talk.wants [] (reported_none now.talk.holes now.talk.wants);
    holes = refl;
    emitted = takes_none a.output;
    reached = inr refl;
    failures = omega arith;
  };
  handed_over = handed_over_none a;
}

-- one link after another
pub fetched_both : (end : FetchEnd) (a b c : Listening) (s t u : Outputs) → FetchesReporting LinkFailed a b s t
    → FetchesReporting end b c t u → FetchesReporting end a c s u
fetched_both end a b c s t u x y =
    let p : HasFetched LinkFailed a b s.output t.output = x.fetched in
    let q : HasFetched end b c t.output u.output = y.fetched in
    let fine : t.output.failures ≡ s.output.failures = p.failures ∙ omega arith in
    let emitted = all_taken p.records s.output t.output p.emitted fine in
    let reported = reported_both a.talk.holes a.talk.wants b.talk.wants c.talk.wants p.records q.records p.reported
    (rw (p.holes) at q.reported) in record {
      fetched = record {
        records = p.records ++ q.records;
        reported = reported;
        moved = moved_by a.talk.holes a.talk.wants c.talk.wants (p.records ++ q.records) reported;
        holes = q.holes ∙ p.holes;
        emitted = takes_both s.output t.output u.output p.records q.records emitted q.emitted;
        reached = reached_after end a b c p.reached q.reached;
        failures = omega (arith, p.failures, q.failures);
      };
      handed_over = handed_over_both p.records q.records s t u x.handed_over fine y.handed_over;
    }

-- some and then others
pub links_both : (end : FetchEnd) (a b c : Listening) (some others : List Exchange) (s t u : BytesWritten)
    → HasReadLinks LinkFailed a b some s t → HasReadLinks end b c others t u → HasReadLinks end a c (some ++ others) s u
links_both end _ _ c _ others _ _ u (over_none now written) q = q
links_both end _ _ c _ others _ _ u (over_one_more _ a now b link links s r t p ps) q =
    over_one_more end a now c link (links ++ others) s r u p (links_both end now b c links others r t u ps q)
links_both end _ _ c _ others _ _ u (over_the_last _ a b link s t p) q = over_one_more end a b c link others s t u p q

-- a new link that was fetched over
pub was_over : (a b : Listening) (h h' : BytesRead) (written written' s t : BytesWritten) (end : FetchEnd)
    → h ≡ nothing_read → written ≡ nothing_written → HasReadLink a b h h' s t
    → IsFetchedOver (fetching a written s) h end (fetching b written' t) h'
    → WasFetchedOver end a b (exchange h' written') s t
was_over a b h h' written written' s t end unread unwritten is over =
    record { read = rw unread at is; turns = rw (unread, unwritten) at over }
