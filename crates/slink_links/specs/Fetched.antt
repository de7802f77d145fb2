-- How fetching over one link after another ends, and what the output accepted by then.
use Rattle.std.specs.Prelude.{◌≡◌, ◌⊎◌, ℕ, ◌+◌, ◌%◌, ◌^◌, ◌<◌, ◌≤◌, Bool, true, false, List, ◌∷◌, ◌++◌, [], length}
use Rattle.std.specs.Prelude.{Option, Some, None, Result, Ok, Err}
use Rattle.mseed_stream.specs.Device.{BytesRead, IsPrefixOf, BytesWritten, nothing_read, nothing_written}
use Rattle.mseed_stream.specs.Exchanges.{Exchange}
use Rattle.slink_feed.specs.declared.dialogue.Ending.{Ending}
use Rattle.slink_feed.specs.declared.dialogue.Ending.TheVariants as endings
use Rattle.slink_feed.specs.declared.dialogue.Event.{Event}
use Rattle.slink_feed.specs.declared.dialogue.Event.TheVariants as events
use Rattle.slink_feed.specs.declared.dialogue.Stage.{Stage}
use Rattle.slink_feed.specs.declared.dialogue.Stage.TheVariants.{Ended}
use Rattle.slink_feed.specs.declared.turn.LinkFault.{LinkFault}
use Rattle.slink_feed.specs.declared.turn.LinkFault.TheVariants as faults
use Rattle.slink_feed.specs.declared.turn.Turn.{Turn}
use Rattle.slink_feed.specs.declared.turn.Turn.TheVariants as turns
use Rattle.slink_feed.specs.Delivered.{Numbered}
use Rattle.slink_feed.specs.Dialogue.{Talk, Wants, next_at, requests_place}
use Rattle.slink_feed.specs.Fetching.{Fetching, ReadsOn, TakesTurn, fetching, line_written}
use Rattle.slink_feed.specs.Listening.{IsLinked, Listening, Reads}
use Rattle.slink_feed.specs.Reports.{AreHandedOver, Outputs, TakesRecords}
use Rattle.slink_feed.specs.Reporter.{AreReported, lines_of, next_line_of, reporting_after, reporting_of, wants_left}
use Rattle.slink_feed.specs.Reported.{HasReported, numbers_at, records_reported}
use Rattle.slink_feed.specs.Turns.{Emitted, EmittedPrefix}
use Rattle.slink_links.specs.declared.fetching.FetchEnd.{FetchEnd}
use Rattle.slink_links.specs.declared.fetching.FetchEnd.TheVariants.{Done, Refused, BadFeed, WriteFailed, LinkFailed}
use Rattle.slink_links.specs.declared.plan.FetchPlan.{FetchPlan}
use Rattle.slink_links.specs.declared.plan.Server.{Server}
use Rattle.slink_links.specs.declared.trouble.Trouble.{Trouble}
use Rattle.slink_links.specs.EndLines.{Outcome, ReportsOfFetch, outcome}
use Rattle.slink_links.specs.Pauses.{pauses_from}

-- Where the client doesn't go past holes, the number that a station wanted moved by how many records of it there are.
abbrev pub HaveMoved : Bool → Wants → Wants → List Numbered → Type 0
HaveMoved holes old new records = holes ≡ false → (k n : ℕ) → n < 2 ^ 24 → next_at old k ≡ Some n
    → next_at new k ≡ Some ((n + length (numbers_at k records)) % 2 ^ 24)

-- what no server sends that serves these stations
abbrev pub IsBad : Ending → Type 0
IsBad endings.End = ⊥
IsBad (endings.Refused k) = ⊥
IsBad ending = Unit {0}

-- The client has come to no end of its link.
abbrev pub IsUnended : Stage → Type 0
IsUnended (Ended ending) = ⊥
IsUnended stage = Unit {0}

-- What stage the client reached by each end. Where the links failed it has come to no end of the last one, or had none.
abbrev pub Reaches : FetchEnd → Listening → Listening → Type 0
Reaches Done old new = new.talk.stage ≡ Ended endings.End
Reaches Refused old new = (k : ℕ) × (new.talk.stage ≡ Ended (endings.Refused k))
Reaches BadFeed old new = (ending : Ending) × (new.talk.stage ≡ Ended ending) × IsBad ending
Reaches WriteFailed old new = IsUnended new.talk.stage
Reaches LinkFailed old new = IsUnended new.talk.stage ⊎ (new ≡ old)

-- how often the output failed by then
abbrev pub output_failures : FetchEnd → ℕ
output_failures WriteFailed = 1
output_failures end = 0

-- The links failed where all tries were used up. At another end some were made, and no more.
abbrev pub HasDialled : FetchEnd → ℕ → ℕ → ℕ → Type 0
HasDialled LinkFailed tries old new = new ≡ old + tries
HasDialled end tries old new = (old < new) × (new ≤ old + tries)

-- the exit status
abbrev pub fetch_status : FetchEnd → ℕ
fetch_status Done = 0
fetch_status end = 2

-- Links were fetched over, up to an end: a client reported these records, and the output accepted them.
pub record HasFetched (end : FetchEnd) (old new : Listening) (written_old written_new : BytesWritten) : Type 0 where
  pub records : List Numbered
  pub reported : HasReported old.talk.holes old.talk.wants new.talk.wants records
  pub moved : HaveMoved old.talk.holes old.talk.wants new.talk.wants records
  pub holes : new.talk.holes ≡ old.talk.holes
  pub emitted : TakesRecords records written_old written_new
  pub reached : Reaches end old new
  pub failures : written_new.failures ≡ written_old.failures + output_failures end

-- Links were fetched over so, and standard error was informed of the records before the output accepted them.
pub record FetchesReporting (end : FetchEnd) (old new : Listening) (before after : Outputs) : Type 0 where
  pub fetched : HasFetched end old new before.output after.output
  pub handed_over : AreHandedOver fetched.records before after

-- whether the last record wasn't taken whole
abbrev pub is_unwritten : FetchEnd → Bool
is_unwritten WriteFailed = true
is_unwritten end = false

-- the arguments of a fetch that goes on, where they are requested
abbrev pub next_lines : Bool → Wants → List (List ℕ)
next_lines false wants = []
next_lines true wants = next_line_of wants ∷ []

-- what is wanted next after these records: what the client wants, and a record again that wasn't taken whole
abbrev pub wants_at_end : Bool → FetchEnd → List Numbered → Wants → Wants → Wants
wants_at_end firsts end records old new =
    wants_left (is_unwritten end) (reporting_after (reporting_of old firsts) records).last new

-- Standard error accepted the lines of these records, each before the output accepted a byte of it; then the lines that
-- say how the fetch ended, and why; and at last, where the first records are reported, the arguments of a fetch that
-- goes on.
pub record ReportsOfAll (firsts : Bool) (end : FetchEnd) (known : Outcome) (records : List Numbered) (old new : Wants)
    (before after : BytesWritten) : Type 0 where
  pub reported : BytesWritten
  pub ended : BytesWritten
  pub lines : AreReported (lines_of (reporting_of old firsts) records) before reported
  pub end_lines : ReportsOfFetch known end reported ended
  pub next : AreReported (next_lines firsts (wants_at_end firsts end records old new)) ended after

-- Links were fetched over, up to an end: what the client reported went to the output, and the status and the lines on
-- standard error are by the end, what went wrong in the last try, and what the client has come to.
pub record FetchesAll (end : FetchEnd) (server : Server) (trouble : Option Trouble) (firsts : Bool) (status : ℕ)
    (old new : Listening)
    (written_old written_new reported_old reported_new : BytesWritten) : Type 0 where
  pub fetched : HasFetched end old new written_old written_new
  pub status_is : status ≡ fetch_status end
  pub reports : ReportsOfAll firsts end (outcome server trouble new.talk) fetched.records old.talk.wants new.talk.wants
      reported_old reported_new

-- Where nothing more is requested, standard error takes the lines of the end alone.
abbrev pub IsQuiet : Server → Bool → Bool → Talk → ℕ → BytesWritten → BytesWritten → Type 0
IsQuiet server firsts holes talk status old new = firsts ≡ false → holes ≡ false
    → (end : FetchEnd) × (trouble : Option Trouble) × (status ≡ fetch_status end)
    × ReportsOfFetch (outcome server trouble talk) end old new

-- the server from which a plan fetches
abbrev pub server_of : FetchPlan → Server
server_of plan = record { host = plan.host; port = plan.port }

-- how a fetch ends by the event at which a client stopped
abbrev pub stopped_by : Event → FetchEnd
stopped_by (events.Refused k) = Refused
stopped_by event = BadFeed

-- how it ends by what a step with a link comes to, if it ends
abbrev pub end_by : Result Turn LinkFault → Option FetchEnd
end_by (Ok turns.Goes) = None
end_by (Ok turns.Closed) = Some LinkFailed
end_by (Ok turns.Ended) = Some Done
end_by (Ok (turns.Stopped event)) = Some (stopped_by event)
end_by (Err faults.Read) = Some LinkFailed
end_by (Err (faults.Write count)) = Some LinkFailed
end_by (Err (faults.Output count)) = Some WriteFailed

-- by an end, or while there is none
abbrev pub ReachesBy : Option FetchEnd → Listening → Listening → Type 0
ReachesBy None old new = IsLinked new.talk.stage
ReachesBy (Some end) old new = Reaches end old new

abbrev pub failures_by : Option FetchEnd → ℕ
failures_by None = 0
failures_by (Some end) = output_failures end

-- Of what a link gave meanwhile these bytes were taken: all of it while there is no end, and else a prefix.
pub record AreTaken (end : Option FetchEnd) (bytes : List ℕ) (read_old read_new : BytesRead) : Type 0 where
  pub prefix : IsPrefixOf (read_old.bytes ++ bytes) read_new.bytes
  pub whole : end ≡ None → read_new.bytes ≡ read_old.bytes ++ bytes

-- Turns were taken with a link, up to an end or not: a client read on by what the link gave, and the output accepted
-- the records that it reported.
pub record HasTurned (end : Option FetchEnd) (old new : Listening) (read_old read_new : BytesRead)
    (written_old written_new : BytesWritten) : Type 0 where
  pub bytes : List ℕ
  pub taken : AreTaken end bytes read_old read_new
  pub reported : List Event
  pub reads : ReadsOn old bytes reported new
  pub emitted : TakesRecords (records_reported reported) written_old written_new
  pub reached : ReachesBy end old new
  pub failures : written_new.failures ≡ written_old.failures + failures_by end

-- There is something that the client has read.
abbrev pub IsReading : Listening → Type 0
IsReading now = (start : Talk) × (stream : List ℕ) × (events : List Event) × Reads start stream events now

-- A link was fetched over: a client begins on it, reads a prefix of what came over it, and reports these events, whose
-- records the output accepted.
pub record HasReadLink (old new : Listening) (read_old read_new : BytesRead)
    (written_old written_new : BytesWritten) : Type 0 where
  pub begun : Listening
  pub line : Event
  pub begins : requests_place 0 old.talk ≡ (begun.talk, line)
  pub bytes : List ℕ
  pub prefix : IsPrefixOf (read_old.bytes ++ bytes) read_new.bytes
  pub reported : List Event
  pub reads : Reads begun.talk bytes reported new
  pub emitted : TakesRecords (records_reported reported) written_old written_new

-- A step was taken with a link, by which the fetch ends so, or goes on.
pub record IsTurnBy (end : Option FetchEnd) (old new : Fetching) (before after : BytesRead) : Type 0 where
  pub turn : Result Turn LinkFault
  pub takes : TakesTurn turn old new before after
  pub ends : end ≡ end_by turn

-- This number of steps was taken with a link, and the fetch goes on after each.
pub data HasTakenTurns (first : Fetching) (before : BytesRead) : ℕ → Fetching → BytesRead → Type 0 where
  none : HasTakenTurns first before 0 first before
  more : (n : ℕ) (now new : Fetching) (mid after : BytesRead) → HasTakenTurns first before n now mid
      → IsTurnBy None now new mid after → HasTakenTurns first before (n + 1) new after

-- Turns were taken up to the one by which the fetch ends so; or 2^40 of them.
pub data HasTakenAll (first : Fetching) (before : BytesRead) : FetchEnd → Fetching → BytesRead → Type 0 where
  to_the_end : (end : FetchEnd) (n : ℕ) (now last : Fetching) (mid after : BytesRead) → n < 2 ^ 40
      → HasTakenTurns first before n now mid
      → IsTurnBy (Some end) now last mid after → HasTakenAll first before end last after
  for_long : (last : Fetching) (after : BytesRead) → HasTakenTurns first before (2 ^ 40) last after
      → HasTakenAll first before LinkFailed last after

-- A client begins on a link by this line, and nothing is kept of the link before.
pub record Begins (old begun : Listening) (line : Event) : Type 0 where
  pub says : requests_place 0 old.talk ≡ (begun.talk, line)
  pub kept : begun.kept ≡ []

-- The line was written to the link, and steps were taken; or the link failed within the line, and wasn't read.
pub data IsFetchedOver (old : Fetching) (before : BytesRead) : FetchEnd → Fetching → BytesRead → Type 0 where
  by_turns : (end : FetchEnd) (begun : Listening) (line : Event) (written : BytesWritten) (new : Fetching)
      (after : BytesRead)
      → Begins old.client begun line
      → Emitted old.written written (line_written line)
      → HasTakenAll (fetching begun written old.output) before end new after
      → IsFetchedOver old before end new after
  unwritten : (begun : Listening) (line : Event) (written : BytesWritten) (count : ℕ) → Begins old.client begun line
      → EmittedPrefix old.written written (line_written line) count
      → IsFetchedOver old before LinkFailed (fetching begun written old.output) before

-- A link was fetched over from its first byte on: what came over it was read, and steps were taken with it up to the
-- one by which the fetch ended so.
pub record WasFetchedOver (end : FetchEnd) (old new : Listening) (link : Exchange)
    (written_old written_new : BytesWritten) : Type
    0 where
  pub read : HasReadLink old new nothing_read link.read written_old written_new
  pub turns : IsFetchedOver (fetching old nothing_written written_old) nothing_read end
      (fetching new link.written written_new)
      link.read

-- One link after another was fetched over, each up to where it failed, and the last one up to this end.
pub data HasReadLinks : FetchEnd → Listening → Listening → List Exchange → BytesWritten → BytesWritten → Type 0 where
  over_none : (now : Listening) (written : BytesWritten) → HasReadLinks LinkFailed now now [] written written
  over_one_more : (end : FetchEnd) (old now new : Listening) (link : Exchange) (links : List Exchange)
      (a b c : BytesWritten)
      → WasFetchedOver LinkFailed old now link a b
      → HasReadLinks end now new links b c → HasReadLinks end old new (link ∷ links) a c
  over_the_last : (end : FetchEnd) (old new : Listening) (link : Exchange) (a b : BytesWritten)
      → WasFetchedOver end old new link a b → HasReadLinks end old new (link ∷ []) a b

-- Some links were given back after those before, and these were fetched over one after another.
pub record HasReadEach (end : FetchEnd) (old new : Listening) (before after : List Exchange)
    (written_old written_new : BytesWritten) : Type 0 where
  pub links : List Exchange
  pub given_back : after ≡ before ++ links
  pub read : HasReadLinks end old new links written_old written_new

-- whether a try brought a record
abbrev pub HasBrought : Bool → List Numbered → Type 0
HasBrought received [] = received ≡ false
HasBrought received (r ∷ rs) = received ≡ true

-- One try: its dial failed; or a link was had and fetched over, which brought a record or didn't, as `received` says.
-- Where the fetch ends otherwise than by links that failed, `received` says nothing.
pub data IsTry (end : FetchEnd) (received : Bool) (old new : Listening) (a b : BytesWritten) : List Exchange → Type 0
  where
    undialled : end ≡ LinkFailed → received ≡ false → new ≡ old → b ≡ a → IsTry end received old new a b []
    dialled : (link : Exchange) (over : WasFetchedOver end old new link a b)
        → (end ≡ LinkFailed → HasBrought received (records_reported over.read.reported))
        → IsTry end received old new a b (link ∷ [])

-- A try, whose link was given back after those before.
pub record HasTried (end : FetchEnd) (received : Bool) (old new : Listening) (before after : List Exchange)
    (a b : BytesWritten) : Type 0 where
  pub links : List Exchange
  pub given_back : after ≡ before ++ links
  pub tried : IsTry end received old new a b links

-- Tries that failed, one after another: of each, whether it brought a record, and the links that were had.
pub data HaveFailed : List Bool → Listening → Listening → List Exchange → BytesWritten → BytesWritten → Type 0 where
  none : (now : Listening) (written : BytesWritten) → HaveFailed [] now now [] written written
  one_more : (tries : List Bool) (received : Bool) (old now new : Listening) (links others : List Exchange)
      (a b c : BytesWritten) → HaveFailed tries old now links a b → IsTry LinkFailed received now new b c others
      → HaveFailed (tries ++ received ∷ []) old new (links ++ others) a c

-- what was called of the devices of a fetch: how often was dialled, which links were given back, and which pauses were
-- made
pub record Calls : Type 0 where
  pub dials : ℕ
  pub given_back : List Exchange
  pub called : List ℕ

abbrev pub calls_of : ℕ → List Exchange → List ℕ → Calls
calls_of dials given_back called = record { dials = dials; given_back = given_back; called = called }

-- No try was made; or tries that failed, after each of which was paused, and a last one.
pub data HasPaused (end : FetchEnd) (old new : Listening) (a b : BytesWritten) (before after : Calls) : Type 0 where
  untried : end ≡ LinkFailed → after ≡ before → HasPaused end old new a b before after
  tried : (tries : List Bool) (received : Bool) (now : Listening) (written : BytesWritten)
      (links others : List Exchange)
      → HaveFailed tries old now links a written → IsTry end received now new written b others
      → after.dials ≡ before.dials + length tries + 1
      → after.given_back ≡ before.given_back ++ (links ++ others)
      → after.called ≡ before.called ++ pauses_from 0 tries → HasPaused end old new a b before after

-- The devices of a fetch were called so, up to an end: at most `tries` tries were made, each link that was had was
-- fetched over and given back, and between the tries was paused.
pub record HasCalled (end : FetchEnd) (tries : ℕ) (old new : Listening) (written_old written_new : BytesWritten)
    (before after : Calls) : Type 0 where
  pub dialled : HasDialled end tries before.dials after.dials
  pub read : HasReadEach end old new before.given_back after.given_back written_old written_new
  pub paused : HasPaused end old new written_old written_new before after
