-- What comes of the records that a client reports: they are reported on standard error, and the output takes them.
use Rattle.std.specs.Prelude.{◌≡◌, ℕ, ◌≤◌, List, [], ◌∷◌, ◌++◌, length, Result}
use Rattle.mseed_stream.specs.Device.{BytesRead, BytesWritten}
use Rattle.slink_feed.specs.declared.turn.LinkFault.{LinkFault}
use Rattle.slink_feed.specs.declared.turn.Turn.{Turn}
use Rattle.slink_feed.specs.Delivered.{Numbered}
use Rattle.slink_feed.specs.Dialogue.{Talk}
use Rattle.slink_feed.specs.Fetching.{Fetching, Notes, TakesTurn}
use Rattle.slink_feed.specs.Reporter.{ReporterState, AreReported, Reporting, lines_of, reporting_after}
use Rattle.slink_feed.specs.Reported.{HasReported, bytes_in}
use Rattle.slink_feed.specs.Turns.{Emitted, EmittedPrefix}

-- The output accepted these records: all of them; or, where it failed, those before the last one, and a prefix of that.
pub data TakesRecords (records : List Numbered) (old new : BytesWritten) : Type 0 where
  all : Emitted old new (bytes_in records) → TakesRecords records old new
  but_last : (some : List Numbered) (last : Numbered) (count : ℕ) → records ≡ some ++ last ∷ []
      → length (bytes_in some) ≤ count
      → EmittedPrefix old new (bytes_in records) count → TakesRecords records old new

-- what the output and standard error accepted so far, and what is reported of records
pub record Outputs : Type 0 where
  pub output : BytesWritten
  pub errors : BytesWritten
  pub reporting : Reporting

abbrev pub outputs : BytesWritten → BytesWritten → Reporting → Outputs
outputs output errors reporting = record { output = output; errors = errors; reporting = reporting }

-- These records were reported, each before the output accepted a byte of it: where the output failed within the last
-- one, its lines are there.
pub record AreHandedOver (records : List Numbered) (old new : Outputs) : Type 0 where
  pub emitted : TakesRecords records old.output new.output
  pub reporting : new.reporting ≡ reporting_after old.reporting records
  pub lines : AreReported (lines_of old.reporting records) old.errors new.errors

-- A client reported records, which were reported and taken.
pub record Reports (old new : Talk) (before after : Outputs) : Type 0 where
  pub records : List Numbered
  pub reported : HasReported old.holes old.wants new.wants records
  pub holes : new.holes ≡ old.holes
  pub handed_over : AreHandedOver records before after

-- A client reported records, each of which a reporter reported before the output took it; and the reporter noted
-- whether the output accepted some.
pub record ReportsRecords (old new : Talk) (reporter_old reporter_new : ReporterState)
    (output_old output_new errors_old errors_new : BytesWritten) : Type 0 where
  pub received : Notes reporter_old.received reporter_new.received output_old output_new
  pub reports : Reports old new (outputs output_old errors_old reporter_old.reporting)
      (outputs output_new errors_new reporter_new.reporting)

-- A client took a step with its link, in which each record was reported before the output took it.
pub record TakesReportingTurn (result : Result Turn LinkFault) (old new : Fetching) (before after : BytesRead)
    (reporter_old reporter_new : ReporterState) (errors_old errors_new : BytesWritten) : Type 0 where
  pub turn : TakesTurn result old new before after
  pub reported : ReportsRecords old.client.talk new.client.talk reporter_old reporter_new old.output new.output
      errors_old errors_new
