-- What is done for one event of a step.
use Rattle.std.specs.Prelude.{◌≡◌, ℕ, ◌+◌, ◌≤◌, ◌<◌, List, ◌++◌, length, take}
use Rattle.mseed_stream.specs.Device.{BytesWritten}
use Rattle.slink_feed.specs.declared.dialogue.Event.{Event}
use Rattle.slink_feed.specs.declared.fetching.Counts.{Counts}
use Rattle.slink_feed.specs.declared.turn.LinkFault.{LinkFault}
use Rattle.slink_feed.specs.declared.turn.LinkFault.TheVariants as faults
use Rattle.slink_feed.specs.Fetching.{Fetching, line_written, record_reported}
use Rattle.slink_feed.specs.Listening.{Brings, Listening}
use Rattle.slink_feed.specs.Reports.{Outputs}
use Rattle.slink_feed.specs.Reporter.{AreReported, lines_of, reporting_after}
use Rattle.slink_feed.specs.Reported.{record_in}
use Rattle.slink_feed.specs.Turns.{Emitted, EmittedPrefix}

-- Its line went to the link, and its record to the output; so many bytes each of them accepted now.
pub record IsDelivered (event : Event) (before after : Counts)
    (written_old written_new output_old output_new : BytesWritten) : Type
    0 where
  pub written : Emitted written_old written_new (line_written event)
  pub output : Emitted output_old output_new (record_reported event)
  pub written_count : after.written ≡ before.written + length (line_written event)
  pub output_count : after.output ≡ before.output + length (record_reported event)
  pub short : length (line_written event) ≤ 32
  pub sized : length (record_reported event) ≤ 512

-- A device failed within what the event gives it, after so many bytes. The other device took nothing.
pub record FailsAtEvent (given : Event → List ℕ) (event : Event) (before count : ℕ)
    (failing_old failing_new other_old other_new : BytesWritten) : Type 0 where
  pub more : ℕ
  pub count_is : count ≡ before + more
  pub failing : EmittedPrefix failing_old failing_new (given event) more
  pub other : other_new ≡ other_old

-- The link failed within the event's line, or the output within its record.
abbrev pub IsUndelivered : LinkFault → Event → Counts → BytesWritten → BytesWritten → BytesWritten → BytesWritten
    → Type 0
IsUndelivered faults.Read event before written_old written_new output_old output_new = ⊥
IsUndelivered (faults.Write count) event before written_old written_new output_old output_new =
    FailsAtEvent line_written event before.written count written_old written_new output_old output_new
IsUndelivered (faults.Output count) event before written_old written_new output_old output_new =
    FailsAtEvent record_reported event before.output count output_old output_new written_old written_new

-- So many of these bytes come to an event, or to none yet.
pub record ComesTo (event : Event) (used : ℕ) (bytes : List ℕ) (old new : Listening) : Type 0 where
  pub brings : Brings old.talk (old.kept ++ take used bytes) new event
  pub some : 0 < used
  pub bound : used ≤ length bytes

-- A record that an event reports was reported.
pub record IsReportedOf (event : Event) (old new : Outputs) : Type 0 where
  pub reporting : new.reporting ≡ reporting_after old.reporting (record_in event)
  pub lines : AreReported (lines_of old.reporting (record_in event)) old.errors new.errors

-- Of these bytes so many were taken, and what they come to was reported and delivered.
pub record TakesNext (bytes : List ℕ) (used : ℕ) (before after : Counts) (old new : Fetching) (was is : Outputs) : Type
    0 where
  pub event : Event
  pub comes : ComesTo event used bytes old.client new.client
  pub reported : IsReportedOf event was is
  pub done : IsDelivered event before after old.written new.written old.output new.output

-- It was reported, and a device failed at it.
pub record FailsToTakeNext (fault : LinkFault) (bytes : List ℕ) (before : Counts) (old new : Fetching)
    (was is : Outputs) : Type 0 where
  pub event : Event
  pub used : ℕ
  pub comes : ComesTo event used bytes old.client new.client
  pub reported : IsReportedOf event was is
  pub cut : IsUndelivered fault event before old.written new.written old.output new.output
