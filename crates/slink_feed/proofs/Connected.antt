-- What the link of one session takes in its steps is what it was requested.
use Rattle.std.proofs.Common.{◌≡◌, ℕ, inl, inr, refl, sym, ap, ◌∙◌, arith}
use Rattle.std.proofs.Common.{List, [], ◌∷◌, ◌++◌, append_assoc, append-nil, length, take, drop}
use Rattle.std.proofs.Common.{take-append-drop, Some, None, slice_get}
use Rattle.mseed_stream.specs.Device.{BytesRead, IsPrefixOf}
use Rattle.slink_wire.specs.declared.command.Command.{Command}
use Rattle.slink_wire.specs.declared.command.Command.TheVariants.{Bye}
use Rattle.slink_wire.specs.declared.lines.LineOutcome.{LineOutcome}
use Rattle.slink_wire.specs.declared.lines.LineOutcome.TheVariants.{More, Line, TooLong}
use Rattle.slink_wire.specs.declared.reply.Reply.{Reply}
use Rattle.slink_wire.specs.declared.reply.Reply.TheVariants as written
use Rattle.slink_wire.specs.Reply.{reply_bytes}
use Rattle.slink_feed.specs.declared.session.Phase.{Phase}
use Rattle.slink_feed.specs.declared.session.Phase.TheVariants.{Streaming, Closed}
use Rattle.slink_feed.specs.declared.session.Sent.{Sent}
use Rattle.slink_feed.specs.declared.turn.LinkFault.{LinkFault}
use Rattle.slink_feed.specs.declared.turn.Turn.{Turn}
use Rattle.slink_feed.specs.Attending.{Attends, IsServeFault, RepliesToAll, at_read, at_reply, at_send, is_at_end}
use Rattle.slink_feed.specs.Attending.{is_closed, replies}
use Rattle.slink_feed.specs.Connection.{FailsInTurn, SendsSlices, ShowPushed, TakesTurns, bytes_sent, fails_later}
use Rattle.slink_feed.specs.Connection.{fails_now, no_turn, turn_taken}
use Rattle.slink_feed.specs.Rounds.{Attending, Gives, SendsAll, all_sent, place_after}
use Rattle.slink_feed.specs.Running.{HasStream, Stands, StandsFor}
use Rattle.slink_feed.specs.Sending.{AreCalled, AreShown, Called, IsReadFrom, packets_of}
use Rattle.slink_feed.specs.Serving.{Answers, IsAnswer, Serves, SessionState, Takes, none_served, piece_served}
use Rattle.slink_feed.specs.Session.{IsBefore, State, answered_in, grant_at, answer_streaming}
use Rattle.slink_feed.specs.Session.{reply_at_next, sent, sent_bytes, sent_in}
use Rattle.slink_feed.specs.Window.{Shows, Window}
use Rattle.slink_feed.proofs.Closing.{Open, open_or, states_same}
use Rattle.slink_feed.proofs.Calls.{IsOn, shut_sent}
use Rattle.slink_feed.proofs.Sendings.{answer_read, quiet, read_grants, read_on, slice_sent, stepped, went}
pub use Rattle.slink_feed.proofs.Calls.{on_sent}

on_given : (feed : List Window) (k last : ℕ) (s u : State) (given : List Sent) → Gives feed k s given last u
    → IsOn s.phase → IsOn u.phase
on_given feed k last s u [] gives on = rw gives.1 on
on_given feed k last s u (a ∷ more) gives on =
    on_given feed (place_after feed k) last (sent feed s k).0 u more gives.1 (on_sent feed s k on)

-- A call for a packet leaves a session as it is, and gives no bytes.
abbrev pub Still : List Window → State → ℕ → Type 0
Still feed s k = ((sent feed s k).0 ≡ s) × (sent_bytes (sent feed s k).1 ≡ [])

-- All further calls leave it so.
module _ (feed : List Window) (s : State) (P : ℕ → Type 0) (next : (k : ℕ) → P k → P (place_after feed k))
    (still : (k : ℕ) → P k → Still feed s k) where
  pub still_given : (k last : ℕ) (u : State) (given : List Sent) → P k → Gives feed k s given last u
      → (u ≡ s) × (all_sent given ≡ [])
  still_given k last u [] p gives = (gives.1, refl)
  still_given k last u (a ∷ more) p gives =
      let rest : (u ≡ s) × (all_sent more ≡ []) =
      still_given (place_after feed k) last u more (next k p) (rw (still k p).0 at gives.1) in
      (rest.0, ap (λ b. b ++ all_sent more) (ap sent_bytes (sym gives.0) ∙ (still k p).1) ∙ rest.1)

pub all_still : (feed : List Window) (s : State) → ((k : ℕ) → Still feed s k) → (k last : ℕ) (u : State)
    (given : List Sent) → Gives feed k s given last u → (u ≡ s) × (all_sent given ≡ [])
all_still feed s still k last u given gives =
    still_given feed s (λ j. Unit {0}) (λ j is. tt) (λ j is. still j) k last u given tt gives

-- a closed session stays
pub shut_still : (feed : List Window) (s : State) → s.phase ≡ Closed → (k : ℕ) → Still feed s k
shut_still feed s shut k = rw (shut_sent feed s k shut) (refl, refl)

pub open_given : (feed : List Window) (a now : Attending) → SendsAll feed a now → Open now.session.state.phase
    → Open a.session.state.phase
open_given feed a now sends awake shut =
    awake (rw (all_still feed a.session.state (shut_still feed a.session.state shut) 0 sends.place now.session.state
    sends.given sends.gives).0 shut)

-- No packet of a station without a grant is sent.
none_sent : (k : ℕ) (called : List Called) (s : State) → grant_at s.grants k ≡ None → AreCalled s called
    → packets_of k called ≡ []
none_sent k [] s none are = refl
none_sent k (a ∷ more) s none are =
    let t : State = are.0 in
    let at_k : grant_at t.grants k ≡ None = ap (λ gs. grant_at gs k) (read_grants s t are.1) ∙ none in
    elim (stepped k a.feed a.place t) [
      | quiet empty stays ↦ rw (← are.2, empty) (none_sent k more (sent a.feed t a.place).0 (stays ∙ at_k) are.3)
      | went g w bytes same is granted here read next ↦
          absurd (let bad : Some g ≡ None = sym granted ∙ at_k in cc bad)
    ]

-- lines, one after another
pub read_further : (s t u : State) → IsReadFrom s t → IsReadFrom t u → IsReadFrom s u
read_further s t u (inl same) more = rw same at more
read_further s t u (inr shut) (inl same) = inr (same ∙ shut)
read_further s t u (inr shut) (inr again) =
    inr (again ∙ ap (λ gs. record { phase = Closed; grants = gs }) (ap (λ (x : State). x.grants) shut))

read_first : (s t : State) (called : List Called) → IsReadFrom s t → AreCalled t called → AreCalled s called
read_first s t [] read are = tt
read_first s t (a ∷ more) read are = (are.0, read_further s t are.0 read are.1, are.2, are.3)

-- what a round asks for
abbrev asks : List Window → ℕ → List Sent → List Called
asks feed k [] = []
asks feed k (a ∷ more) = record { feed = feed; place = k; answer = a } ∷ asks feed (place_after feed k) more

asks_then : (feed : List Window) (k last : ℕ) (s u : State) (given : List Sent) (rest : List Called)
    → Gives feed k s given last u → AreCalled u rest → AreCalled s (asks feed k given ++ rest)
asks_then feed k last s u [] rest gives are = rw gives.1 at are
asks_then feed k last s u (a ∷ more) rest gives are =
    (s, inl refl, gives.0, asks_then feed (place_after feed k) last (sent feed s k).0 u more rest gives.1 are)

asks_bytes : (feed : List Window) (k : ℕ) (given : List Sent) (rest : List Called)
    → bytes_sent (asks feed k given ++ rest) ≡ all_sent given ++ bytes_sent rest
asks_bytes feed k [] rest = refl
asks_bytes feed k (a ∷ more) rest = ap (λ b. sent_bytes a ++ b) (asks_bytes feed (place_after feed k) more rest)
    ∙ sym (append_assoc (sent_bytes a) (all_sent more) (bytes_sent rest))

asks_shown : (feed : List Window) (k j first : ℕ) (pushed : List (List ℕ)) (given : List Sent) (rest : List Called)
    → ((w : Window) × (n : ℕ) × (slice_get feed k ≡ Some w) × Shows w first (take n pushed))
    → AreShown k first pushed rest → AreShown k first pushed (asks feed j given ++ rest)
asks_shown feed k j first pushed [] rest shown are = are
asks_shown feed k j first pushed (a ∷ more) rest shown are =
    (shown, asks_shown feed k (place_after feed j) first pushed more rest shown are)

-- What was sent in turns.
record Wrote (feeds : List (List Window)) (s : State) (bytes : List ℕ) : Type 0 where
  called : List Called
  are_called : AreCalled s called
  bytes_are : bytes ≡ bytes_sent called
  shown : (k first : ℕ) (pushed : List (List ℕ)) → ShowPushed k first pushed feeds → AreShown k first pushed called

nothing_wrote : (s : State) → Wrote [] s []
nothing_wrote s = record { called = []; are_called = tt; bytes_are = refl; shown = λ k first pushed shown. tt }

asked_wrote : (feed : List Window) (feeds : List (List Window)) (s u : State) (given : List Sent) (bytes : List ℕ)
    → ((rest : List Called) → AreCalled u rest → AreCalled s (asks feed 0 given ++ rest)) → Wrote feeds u bytes
    → Wrote (feed ∷ feeds) s (all_sent given ++ bytes)
asked_wrote feed feeds s u given bytes asked w = record {
  called = asks feed 0 given ++ w.called;
  are_called = asked w.called w.are_called;
  bytes_are = ap (λ b. all_sent given ++ b) w.bytes_are ∙ sym (asks_bytes feed 0 given w.called);
  shown = λ k first pushed shown. asks_shown feed k 0 first pushed given w.called shown.0
      (w.shown k first pushed shown.1);
}

slices : (feeds : List (List Window)) (s : State) (bytes : List ℕ) → IsOn s.phase → Wrote feeds s bytes
    → SendsSlices feeds s bytes
slices feeds s bytes on w = record {
  called = w.called;
  are_called = w.are_called;
  bytes_are = w.bytes_are;
  slice = λ k first pushed g at_k shown. slice_sent _ _ _ _ _ g on at_k w.are_called (w.shown k first pushed shown);
  none = λ k at_k. none_sent k w.called s at_k w.are_called;
}

-- what a session that streams replies: nothing
quiet_line : (s : State) (c : Command) → (answer_streaming s c).1 ≡ written.Nothing
quiet_line s Bye = refl
quiet_line s command = refl

pub reply_none : (feed : List Window) (s new : State) (what : LineOutcome) (reply : Reply) → s.phase ≡ Streaming
    → IsAnswer feed s what new reply → reply ≡ written.Nothing
reply_none feed s new More reply on is = is.1
reply_none feed s new (Line line) reply on is =
    sym (ap (λ (x : State × Reply). x.1) is.2)
    ∙ (ap (λ (p : Phase). (answered_in p feed s is.0).1) on ∙ quiet_line s is.0)
reply_none feed s new TooLong reply on is = sym (ap (λ (x : State × Reply). x.1) is) ∙ ap reply_at_next on

streaming : (p : Phase) → IsOn p → Open p → p ≡ Streaming
streaming p (inl on) awake = on
streaming p (inr shut) awake = absurd (awake shut)

-- What lines leave of a session that streams.
record ReadOn (s last : SessionState) (way all : List ℕ) : Type 0 where
  read : IsReadFrom s.state last.state
  quiet : all ≡ way
  stream : HasStream last

module _ (feed : List Window) where
  piece_read_on : (u now : SessionState) (piece : List ℕ) (reply : Reply) → Takes feed u piece now reply
      → IsOn u.state.phase → HasStream u → ReadOn u now [] (reply_bytes reply)
  piece_read_on u now piece reply takes on stream = elim (open_or u.state.phase) [
    | inl shut ↦ let same : (reply ≡ written.Nothing) × (now ≡ u) = takes.closed shut in
        record {
          read = inl (ap (λ (x : SessionState). x.state) same.1);
          quiet = ap reply_bytes same.0;
          stream = rw same.1 stream;
        }
    | inr awake ↦
        let answer : Answers feed u.state stream.0 (stream.0 ++ piece) now.state reply =
        takes.answers stream.0 awake (stream.1 awake) in
        let at : u.state.phase ≡ Streaming = streaming u.state.phase on awake in
        record {
          read = answer_read feed u.state now.state answer.0 reply at answer.2;
          quiet = ap reply_bytes (reply_none feed u.state now.state answer.0 reply at answer.2);
          stream = (stream.0 ++ piece, λ _. takes.held stream.0 awake (stream.1 awake));
        }
  ]

  read_all_on : (s : SessionState) (bytes way : List ℕ) (last : SessionState) (all : List ℕ)
      → Serves feed s bytes way last all → IsOn s.state.phase → HasStream s → ReadOn s last way all
  read_all_on s bytes way last all (none_served u w) on stream =
      record { read = inl refl; quiet = refl; stream = stream }
  read_all_on s bytes way last all (piece_served u now v bs piece others w sent reply split takes more) on stream =
      let one : ReadOn u now [] (reply_bytes reply) = piece_read_on u now piece reply takes on stream in
      let rest : ReadOn now v (w ++ reply_bytes reply) sent =
      read_all_on now others (w ++ reply_bytes reply) v sent more (read_on u.state now.state one.read on)
      one.stream in
      record {
        read = read_further u.state now.state v.state one.read rest.read;
        quiet = rest.quiet ∙ (ap (λ b. w ++ b) one.quiet ∙ append-nil w);
        stream = rest.stream;
      }

  -- What a step leaves of it.
  record TurnOn (a now : Attending) : Type 0 where
    given : List Sent
    asked : (rest : List Called) → AreCalled now.session.state rest
        → AreCalled a.session.state (asks feed 0 given ++ rest)
    bytes : now.written.bytes ≡ a.written.bytes ++ all_sent given
    on : IsOn now.session.state.phase
    stream : HasStream now.session

  sends_on : (a now : Attending) → SendsAll feed a now → IsOn a.session.state.phase → HasStream a.session → TurnOn a now
  sends_on a now sends on stream = record {
    given = sends.given;
    asked = λ rest are. asks_then feed 0 sends.place a.session.state now.session.state sends.given rest sends.gives are;
    bytes = sends.written.bytes;
    on = on_given feed 0 sends.place a.session.state now.session.state sends.given sends.gives on;
    stream = (stream.0, λ awake. rw sends.held (stream.1 (open_given feed a now sends awake)));
  }

  replies_on : (a now new : Attending) (bytes : List ℕ) → TurnOn a now → RepliesToAll feed now new bytes → TurnOn a new
  replies_on a now new bytes t done =
      let rest : ReadOn now.session new.session now.written.bytes new.written.bytes =
      read_all_on now.session bytes now.written.bytes new.session new.written.bytes done.serves t.on t.stream in
      record {
        given = t.given;
        asked = λ more are. t.asked more (read_first now.session.state new.session.state more rest.read are);
        bytes = rest.quiet ∙ t.bytes;
        on = read_on now.session.state new.session.state rest.read t.on;
        stream = rest.stream;
      }

  turn_on : (a now : Attending) (before after : BytesRead) (turn : Turn) → Attends feed a now before after turn
      → IsOn a.session.state.phase → HasStream a.session → TurnOn a now
  turn_on a now before after turn (is_closed sends shut same) on stream = sends_on a now sends on stream
  turn_on a now before after turn (is_at_end goes same) on stream = sends_on a now goes.sends on stream
  turn_on a now before after turn (replies mid bytes goes read some few done) on stream =
      replies_on a mid now bytes (sends_on a mid goes.sends on stream) done

-- What was sent in turns, of which the link accepted all but these last bytes.
abbrev WroteBut : List ℕ → List (List Window) → Attending → Attending → Type 0
WroteBut rest feeds a b = (prefix : List ℕ) × (b.written.bytes ≡ a.written.bytes ++ prefix)
    × Wrote feeds a.session.state (prefix ++ rest)

no_turn_wrote : (a : Attending) → WroteBut [] [] a a
no_turn_wrote a = ([], sym (append-nil a.written.bytes), nothing_wrote a.session.state)

turn_wrote : (rest : List ℕ) (feed : List Window) (feeds : List (List Window)) (a now b : Attending) → TurnOn feed a now
    → WroteBut rest feeds now b → WroteBut rest (feed ∷ feeds) a b
turn_wrote rest feed feeds a now b t w = (
  all_sent t.given ++ w.0,
  w.1 ∙ (ap (λ bytes. bytes ++ w.0) t.bytes ∙ append_assoc a.written.bytes (all_sent t.given) w.0),
  rw (append_assoc (all_sent t.given) w.0 rest)
      (asked_wrote feed feeds a.session.state now.session.state t.given (w.0 ++ rest) t.asked w.2),
)

turns_wrote : (feeds : List (List Window)) (a b : Attending) → TakesTurns a feeds b → IsOn a.session.state.phase
    → HasStream a.session → WroteBut [] feeds a b
turns_wrote feeds a b (no_turn x) on stream = no_turn_wrote x
turns_wrote feeds a b (turn_taken x now y feed more before after turn one rest) on stream =
    let t : TurnOn feed x now = turn_on feed x now before after turn one on stream in
    turn_wrote [] feed more x now y t (turns_wrote more now y rest t.on t.stream)

-- the last of which failed
fault_wrote : (feed : List Window) (a b : Attending) (before after : BytesRead) (fault : LinkFault)
    → IsServeFault feed a b before after fault → IsOn a.session.state.phase → HasStream a.session
    → (rest : List ℕ) × WroteBut rest (feed ∷ []) a b
fault_wrote feed a b before after fault (at_send count fails same) on stream =
    let given : List Sent = fails.given ++ fails.last ∷ [] in
    let all : List ℕ = all_sent given in
    let wrote = asked_wrote feed [] a.session.state b.session.state given []
    (λ rest are. asks_then feed 0 fails.place a.session.state b.session.state given rest fails.gives are)
    (nothing_wrote b.session.state) in (
      drop count all,
      (take count all, fails.written.bytes, rw (take-append-drop count all) (rw (append-nil all) at wrote)),
    )
fault_wrote feed a b before after fault (at_read goes read) on stream =
    ([], turn_wrote [] feed [] a b b (sends_on feed a b goes.sends on stream) (no_turn_wrote b))
fault_wrote feed a b before after fault (at_reply count now bytes goes read few fails counted) on stream =
    let t : TurnOn feed a now = sends_on feed a now goes.sends on stream in
    let u : TurnOn feed a fails.before = replies_on feed a now fails.before fails.prefix t fails.replies in
    let one : ReadOn fails.before.session b.session [] (reply_bytes fails.reply) =
    piece_read_on feed fails.before.session b.session fails.piece fails.reply fails.takes u.on u.stream in
    absurd (omega (arith, fails.written.part, ap length one.quiet))

fails_wrote : (feeds : List (List Window)) (a b : Attending) → FailsInTurn a feeds b → IsOn a.session.state.phase
    → HasStream a.session → (rest : List ℕ) × WroteBut rest feeds a b
fails_wrote feeds a b (fails_now x y feed before after fault one) on stream =
    fault_wrote feed x y before after fault one on stream
fails_wrote feeds a b (fails_later x now y feed more before after turn one rest) on stream =
    let t : TurnOn feed x now = turn_on feed x now before after turn one on stream in
    let w = fails_wrote more now y rest t.on t.stream in
    (w.0, turn_wrote w.0 feed more x now y t w.1)

-- a session that stands, stands for a stream
stream_of : (s : SessionState) → Stands s → HasStream s
stream_of s stands = elim (open_or s.state.phase) [
  | inl shut ↦ ([], λ awake. absurd (awake shut))
  | inr awake ↦ let some : (stream : List ℕ) × StandsFor s stream = stands awake in (some.0, λ _. some.1.0)
]

pub turns_sent : (feeds : List (List Window)) (old new : Attending) → old.session.state.phase ≡ Streaming
    → Stands old.session → TakesTurns old feeds new
    → (bytes : List ℕ) × (new.written.bytes ≡ old.written.bytes ++ bytes) × SendsSlices feeds old.session.state bytes
turns_sent feeds old new on stands turns =
    let w : WroteBut [] feeds old new = turns_wrote feeds old new turns (inl on) (stream_of old.session stands) in
    (w.0, w.1, slices feeds old.session.state w.0 (inl on) (rw (append-nil w.0) at w.2))

pub turns_failed : (feeds : List (List Window)) (old new : Attending) → old.session.state.phase ≡ Streaming
    → Stands old.session → FailsInTurn old feeds new
    → (bytes prefix : List ℕ) × IsPrefixOf prefix bytes × (new.written.bytes ≡ old.written.bytes ++ prefix)
    × SendsSlices feeds old.session.state bytes
turns_failed feeds old new on stands turns =
    let w = fails_wrote feeds old new turns (inl on) (stream_of old.session stands) in
    (w.1.0 ++ w.0, w.1.0, (w.0, refl), w.1.1, slices feeds old.session.state (w.1.0 ++ w.0) (inl on) w.1.2)

-- before records are sent
before_still : (p : Phase) (feed : List Window) (s : State) (k : ℕ) → IsBefore p → ((sent_in p feed s k).0 ≡ s)
    × (sent_bytes (sent_in p feed s k).1 ≡ [])
before_still Streaming feed s k is = absurd is
before_still Closed feed s k is = absurd is
before_still phase feed s k is = (refl, refl)

pub before_sent : (feed : List Window) (old new : Attending) → IsBefore old.session.state.phase → SendsAll feed old new
    → (new.session ≡ old.session) × (new.written.bytes ≡ old.written.bytes)
before_sent feed old new is sends =
    let s : State = old.session.state in
    let one = all_still feed s (λ k. before_still s.phase feed s k is) 0 sends.place new.session.state sends.given
    sends.gives in (
      states_same new.session old.session one.0 sends.held,
      sends.written.bytes ∙ (ap (λ b. old.written.bytes ++ b) one.1 ∙ append-nil old.written.bytes),
    )
