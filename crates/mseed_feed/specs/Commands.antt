-- What serving the records of an archive and fetching come to: the exit status, and what was written.
use Rattle.std.specs.Prelude.{◌≡◌, ℕ, List, Option, Some, Result, Ok, Err}
use Rattle.mseed_files.specs.InputFiles.{no_memory}
use Rattle.mseed_stream.specs.Calls.{ReadsOn}
use Rattle.mseed_stream.specs.LineWritten.{WritesLine}
use Rattle.mseed_stream.specs.Device.{Beside, BytesRead, BytesWritten, nothing_read}
use Rattle.slink_feed.specs.Listening.{Listening}
use Rattle.slink_feed.specs.Reporter.{AreReported}
use Rattle.slink_feed.specs.Window.{Window}
use Rattle.slink_feed.specs.declared.input.InputFault.{InputFault}
use Rattle.slink_links.specs.Dialled.{Dialled, nothing_dialled}
use Rattle.slink_links.specs.Fetched.{FetchesAll, HasCalled}
use Rattle.slink_links.specs.Out.{AreOut}
use Rattle.slink_links.specs.Trouble.{IsOfLastTry}
use Rattle.slink_links.specs.declared.fetching.FetchEnd.{FetchEnd}
use Rattle.slink_links.specs.declared.plan.Server.{Server}
use Rattle.slink_links.specs.declared.trouble.Trouble.{Trouble}
use Rattle.mseed_words.specs.declared.request.Fetching.{Fetching}
use Rattle.mseed_words.specs.declared.request.Serving.{Serving}
use Rattle.mseed_feed.specs.Filling.{IsFilling, IsOneFilling}
use Rattle.mseed_feed.specs.Plans.{fill_lines, first_client, keeps_lines}
use Rattle.mseed_feed.specs.InTurn.{HasServedInTurn, IsListenedInTurn}
use Rattle.mseed_feed.specs.Transport.{Fetched, Refused, TransportOutcome, TransportState}
use Rattle.mseed_feed.specs.declared.transport.Planned.TheVariants.{Fetch as fetch}
use Rattle.mseed_feed.specs.declared.transport.DeviceFault.TheVariants.{Memory}

-- by what filling the feed came to: the lines of its rings were written, and it was served to as many connections as
-- were requested, by all that happened where it was listened, at the address and port that were requested; or status 2,
-- the lines of what is wrong with the input, and nobody listened
abbrev pub IsServedBy : Serving → Result (List Window) InputFault → ℕ → BytesWritten → BytesWritten → TransportState
    → TransportState → Type 0
IsServedBy serving (Ok feed) status old new before after = (reported : BytesWritten)
    × AreReported (keeps_lines serving feed) old reported
    × IsListenedInTurn serving.listener after.planned
    × HasServedInTurn serving.listener serving.connections feed after.came status reported new
IsServedBy serving (Err fault) status old new before after =
    (status ≡ 2) × AreReported (fill_lines fault) old new × (after ≡ before)

-- what was read of an input from its first byte on: a beginning of what it is known to have, and all of it where the
-- input is at its end
pub record HasReadInput (left : Option (List ℕ)) (apart : Beside) (read : BytesRead) : Type 0 where
  pub rest : Option (List ℕ)
  pub later : Beside
  pub reads : ReadsOn nothing_read read left rest apart later

-- A feed was filled by what was read of an input, which decides it but for memory, and served where it could be.
pub record HasServedInput (serving : Serving) (read : BytesRead) (status : ℕ) (old new : BytesWritten)
    (before after : TransportState) : Type 0 where
  pub outcome : Result (List Window) InputFault
  pub filling : IsFilling serving outcome read
  pub only : IsOneFilling serving outcome read
  pub served : IsServedBy serving outcome status old new before after

-- the server from which was requested
abbrev pub server_of : Fetching → Server
server_of fetching = record { host = fetching.server.host; port = fetching.server.port }

-- A new client of the places that were requested fetched up to an end: its records were written, and standard error
-- got the lines of that end, by the server that was requested and what went wrong in the last try, and those that were
-- requested. At most as many tries were made as were requested, each link that was had was fetched over, from its first
-- byte on, and given back, and between the tries was paused. What went wrong in the last try is what its device said.
pub record HasFetchedOver (fetching : Fetching) (links : Dialled) (status : ℕ)
    (written_old written_new reported_old reported_new : BytesWritten) : Type 0 where
  pub end : FetchEnd
  pub trouble : Option Trouble
  pub last : Listening
  pub fetched : FetchesAll end (server_of fetching) trouble fetching.report_next status (first_client fetching) last
      written_old written_new reported_old reported_new
  pub called : HasCalled end fetching.tries (first_client fetching) last written_old written_new nothing_dialled.calls
      links.calls
  pub tried : IsOfLastTry fetching.tries trouble links.trouble
  pub out : AreOut 0 links.calls.dials links.failures links.calls.given_back

-- By what came of it: so it was, by all calls of the device that was had; or there was no memory for the device.
abbrev pub HasFetchedBy : Fetching → TransportOutcome → ℕ → BytesWritten → BytesWritten → BytesWritten → BytesWritten
    → Type 0
HasFetchedBy fetching (Fetched links) status written_old written_new reported_old reported_new =
    HasFetchedOver fetching links status written_old written_new reported_old reported_new
HasFetchedBy fetching (Refused Memory) status written_old written_new reported_old reported_new =
    (status ≡ 2) × (written_new ≡ written_old) × WritesLine no_memory reported_old reported_new
HasFetchedBy fetching outcome status written_old written_new reported_old reported_new = ⊥

-- The server that was requested is the one that was dialled, with that time-out, and this is what came of it.
pub record HasFetchedRequested (fetching : Fetching) (after : TransportState) (status : ℕ)
    (written_old written_new reported_old reported_new : BytesWritten) : Type 0 where
  pub planned : after.planned ≡ Some (fetch fetching.server)
  pub fetched : HasFetchedBy fetching after.came status written_old written_new reported_old reported_new
