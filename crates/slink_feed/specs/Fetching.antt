-- A step of a client with its link: one read, and what comes of the bytes that it gave.
use Rattle.std.specs.Prelude.{◌≡◌, ◌≢◌, ◌⊎◌, ℕ, ◌+◌, ◌≤◌, ◌<◌, Bool, true, false, List, [], ◌∷◌, ◌++◌, length}
use Rattle.std.specs.Prelude.{IfErr, IfOk, Result}
use Rattle.mseed_stream.specs.Device.{BytesRead, IsPrefixOf, BytesWritten}
use Rattle.slink_feed.specs.declared.dialogue.Ending.{Ending}
use Rattle.slink_feed.specs.declared.dialogue.Ending.TheVariants as endings
use Rattle.slink_feed.specs.declared.dialogue.Event.{Event}
use Rattle.slink_feed.specs.declared.dialogue.Event.TheVariants as events
use Rattle.slink_feed.specs.declared.dialogue.Stage.{Stage}
use Rattle.slink_feed.specs.declared.dialogue.Stage.TheVariants.{Unlinked, Ended}
use Rattle.slink_feed.specs.declared.turn.LinkFault.{LinkFault}
use Rattle.slink_feed.specs.declared.turn.LinkFault.TheVariants as faults
use Rattle.slink_feed.specs.declared.turn.Turn.{Turn}
use Rattle.slink_feed.specs.declared.turn.Turn.TheVariants as turns
use Rattle.slink_feed.specs.Dialogue.{Talk, event_of}
use Rattle.slink_feed.specs.Listening.{IsLinked, Listening, Reads}
use Rattle.slink_feed.specs.Turns.{Emitted, EmittedPrefix, failed_once, read_once}

-- the line that an event has for the link
abbrev pub line_written : Event → List ℕ
line_written (events.Say line) = line.items
line_written event = []

-- the bytes of the record that an event reports
abbrev pub record_reported : Event → List ℕ
record_reported (events.Record k number bytes) = bytes
record_reported event = []

-- what each event gives, one after another
abbrev pub joined_by : (Event → List ℕ) → List Event → List ℕ
joined_by given [] = []
joined_by given (e ∷ es) = given e ++ joined_by given es

-- the lines that events say
abbrev pub lines_written : List Event → List ℕ
lines_written reported = joined_by line_written reported

-- the bytes of the records that they report
abbrev pub bytes_reported : List Event → List ℕ
bytes_reported reported = joined_by record_reported reported

-- A client reads on by these bytes, of which it makes these events, whatever it read before.
abbrev pub ReadsOn : Listening → List ℕ → List Event → Listening → Type 0
ReadsOn old bytes reported new = (start : Talk) (stream : List ℕ) (before : List Event)
    → Reads start stream before old → Reads start (stream ++ bytes) (before ++ reported) new

-- Of these bytes a client accepted a prefix, of which it makes these events.
pub record Takes (old new : Listening) (bytes : List ℕ) (reported : List Event) : Type 0 where
  pub taken : List ℕ
  pub prefix : IsPrefixOf taken bytes
  pub reads : ReadsOn old taken reported new

-- a client with what its link accepted so far, and its output
pub record Fetching : Type 0 where
  pub client : Listening
  pub written : BytesWritten
  pub output : BytesWritten

-- A client accepted these bytes: all of them, unless it came to an end. Its lines went to the link, and
-- the records that it reports went to the output.
pub record Delivers (old new : Fetching) (bytes : List ℕ) : Type 0 where
  pub reported : List Event
  pub takes : Takes old.client new.client bytes reported
  pub whole : IsLinked new.client.talk.stage → takes.taken ≡ bytes
  pub linked : IsLinked old.client.talk.stage → new.client.talk.stage ≢ Unlinked
  pub written : Emitted old.written new.written (lines_written reported)
  pub output : Emitted old.output new.output (bytes_reported reported)

-- A device failed within what the last event gives it, once it had taken `count` bytes. The other device took what the
-- events before give that one.
pub record FailsAtLast (given others : Event → List ℕ) (old new : Listening) (bytes : List ℕ) (count : ℕ)
    (failing_old failing_new other_old other_new : BytesWritten) : Type 0 where
  pub reported : List Event
  pub last : Event
  pub takes : Takes old new bytes (reported ++ last ∷ [])
  pub linked : IsLinked new.talk.stage
  pub failing : EmittedPrefix failing_old failing_new (joined_by given (reported ++ last ∷ [])) count
  pub beyond : length (joined_by given reported) ≤ count
  pub other : Emitted other_old other_new (joined_by others reported)

-- The link failed within the line of the last event.
abbrev pub FailsToWriteLine : Fetching → Fetching → List ℕ → ℕ → Type 0
FailsToWriteLine old new bytes count = FailsAtLast line_written record_reported old.client new.client bytes count
    old.written
    new.written old.output new.output

-- The output failed within the record of the last event.
abbrev pub FailsToWrite : Fetching → Fetching → List ℕ → ℕ → Type 0
FailsToWrite old new bytes count = FailsAtLast record_reported line_written old.client new.client bytes count old.output
    new.output old.written new.written

-- what failed while a client accepted these bytes
abbrev pub FailsAt : LinkFault → Fetching → Fetching → List ℕ → Type 0
FailsAt faults.Read old new bytes = ⊥
FailsAt (faults.Write count) old new bytes = FailsToWriteLine old new bytes count
FailsAt (faults.Output count) old new bytes = FailsToWrite old new bytes count

-- what a client has come to: it goes on, or is at an end
abbrev pub turn_of : Ending → Turn
turn_of endings.End = turns.Ended
turn_of ending = turns.Stopped (event_of ending)

abbrev pub turn_at : Stage → Turn
turn_at (Ended ending) = turn_of ending
turn_at stage = turns.Goes

-- Where the link gave nothing, it is closed.
abbrev pub turn_after : List ℕ → Stage → Turn
turn_after [] stage = turns.Closed
turn_after (b ∷ bs) stage = turn_at stage

-- A step: one read gave these bytes, at most as many as a packet still lacks of its 520, and what came of them is done.
pub record Fetches (old new : Fetching) (before after : BytesRead) (turn : Turn) : Type 0 where
  pub bytes : List ℕ
  pub read : after ≡ read_once before bytes
  pub most : length bytes + length old.client.kept ≤ 520
  pub delivers : Delivers old new bytes
  pub nothing : bytes ≡ [] → new ≡ old
  pub turn_is : turn ≡ turn_after bytes new.client.talk.stage

-- A step in which a write failed: one read gave these bytes.
pub record IsCutShort (old new : Fetching) (before after : BytesRead) (fault : LinkFault) : Type 0 where
  pub bytes : List ℕ
  pub read : after ≡ read_once before bytes
  pub most : length bytes + length old.client.kept ≤ 520
  pub fails : FailsAt fault old new bytes

-- Where the read failed, nothing else was done.
abbrev pub IsFetchFault : LinkFault → Fetching → Fetching → BytesRead → BytesRead → Type 0
IsFetchFault faults.Read old new before after = (new ≡ old) × (after ≡ failed_once before)
IsFetchFault fault old new before after = IsCutShort old new before after fault

-- What a call that takes a step comes to: a step, or what failed in it. The bytes that the client had kept read as what
-- is begun: so the step says what they read as with those of the link.
pub record TakesTurn (result : Result Turn LinkFault) (old new : Fetching) (before after : BytesRead) : Type 0 where
  pub ok : IfOk result (λ turn. Fetches old new before after turn)
  pub fault : IfErr result (λ fault. IsFetchFault fault old new before after)
  pub reading : Reads old.client.talk old.client.kept [] old.client

-- a client with what the two devices accepted so far
abbrev pub fetching : Listening → BytesWritten → BytesWritten → Fetching
fetching client written output = record { client = client; written = written; output = output }

-- What notes that the output accepted records: it is set where it was set before, or where the output accepted some,
-- unless the output failed.
pub record Notes (was is : Bool) (old new : BytesWritten) : Type 0 where
  pub yes : is ≡ true → (was ≡ true) ⊎ (length old.bytes < length new.bytes)
  pub no : is ≡ false → was ≡ false
  pub none : is ≡ false → new.failures ≡ old.failures → new.bytes ≡ old.bytes
  pub grows : length old.bytes ≤ length new.bytes
