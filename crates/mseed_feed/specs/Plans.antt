-- The plans of the two commands of a feed, and what is given where there is none.
use Rattle.std.specs.Prelude.{◌≡◌, ℕ, ◌-◌, List, [], ◌∷◌, ◌++◌, Result, Ok, Err, codes, decimal, length, nat_lt}
use Rattle.std.specs.Prelude.{if◌then◌else◌}
use Rattle.mseed_files.specs.InputFiles.{no_memory}
use Rattle.mseed_files.specs.Given.{given_line}
use Rattle.mseed_record.specs.Header.{trimmed}
use Rattle.mseed_stream.specs.Device.{BytesRead, BytesWritten}
use Rattle.mseed_stream.specs.declared.fault.StreamFault.TheVariants.{Memory}
use Rattle.mseed_text.specs.Fault.{fault_line}
use Rattle.slink_wire.specs.Place.{Fields, label_of}
use Rattle.slink_feed.specs.Listening.{Listening, new_client}
use Rattle.slink_feed.specs.Reporter.{AreReported}
use Rattle.slink_feed.specs.Window.{Window}
use Rattle.slink_feed.specs.declared.grant.Mode.TheVariants as modes
use Rattle.slink_feed.specs.declared.input.ForeignRecord.{ForeignRecord}
use Rattle.slink_feed.specs.declared.input.InputFault.{InputFault}
use Rattle.slink_feed.specs.declared.input.InputFault.TheVariants.{Stream, Foreign}
use Rattle.mseed_feed.specs.Filling.{IsFilling, IsOneFilling, records_of}
use Rattle.slink_links.specs.declared.plan.FetchPlan.{FetchPlan}
use Rattle.slink_links.specs.declared.plan.ServePlan.{ServePlan}
use Rattle.mseed_words.specs.declared.request.Fetching.{Fetching}
use Rattle.mseed_words.specs.declared.request.Serving.{Serving}

-- why a feed isn't filled further
abbrev pub fill_text : InputFault → List ℕ
fill_text (Stream Memory) = no_memory
fill_text (Stream fault) = codes "mseed: " ++ fault_line fault
fill_text (Foreign foreign) = codes "mseed: record " ++ decimal foreign.number ++ codes " is not of this feed\n"

-- of which station a record is that isn't the feed's, as network and station with `_` between them, each without the
-- spaces and NULs at its end; and how many bytes it has
abbrev pub station_line : ForeignRecord → List ℕ
station_line foreign =
    given_line (codes "record " ++ decimal foreign.number ++ codes " is of ")
    (trimmed foreign.network ++ codes "_" ++ trimmed foreign.station)
    (codes ", and has " ++ decimal foreign.size ++ codes " bytes")

-- what more is said of it
abbrev pub more_lines : InputFault → List (List ℕ)
more_lines (Stream fault) = []
more_lines (Foreign foreign) = station_line foreign ∷ []

-- both
abbrev pub fill_lines : InputFault → List (List ℕ)
fill_lines fault = fill_text fault ∷ more_lines fault

-- the feed, and the values that were requested
pub record IsServePlan {A : Type 0} (serving : Serving) (feed : List Window) (plan : ServePlan A) : Type 0 where
  pub address : plan.address ≡ serving.listener.host
  pub port : plan.port ≡ serving.listener.port
  pub connections : plan.connections ≡ serving.connections
  pub timeout : plan.timeout ≡ serving.listener.timeout
  pub feed_is : plan.feed ≡ feed

-- the line of a station of which more records came than its ring keeps
abbrev pub keeps_line : Fields → ℕ → ℕ → List ℕ
keeps_line place capacity came = codes "mseed: " ++ label_of place ++ codes " keeps the last " ++ decimal capacity
    ++ codes " of " ++ decimal came ++ codes " records\n"

-- how many records came to a ring: the first of them had the first number
abbrev pub came_to : Serving → Window → ℕ
came_to serving ring = ring.next - serving.first

-- a ring's line: there is one where more records came than are kept
abbrev pub ring_lines : Serving → Window → List (List ℕ)
ring_lines serving ring =
    if nat_lt serving.capacity (came_to serving ring) then
    keeps_line ring.place serving.capacity (came_to serving ring) ∷ [] else []

-- the lines of the rings, in the order of their stations
abbrev pub keeps_lines : Serving → List Window → List (List ℕ)
keeps_lines serving [] = []
keeps_lines serving (ring ∷ feed) = ring_lines serving ring ++ keeps_lines serving feed

-- the same by the records of the stations
abbrev pub lines_by_records : Serving → List (List ℕ) → List Fields → List (List ℕ)
lines_by_records serving records [] = []
lines_by_records serving records (place ∷ places) =
    (if nat_lt serving.capacity (length (records_of place records)) then
    keeps_line place serving.capacity (length (records_of place records)) ∷ [] else [])
    ++ lines_by_records serving records places

-- by what filling the feed came to: a plan, and the lines of its rings; or status 2, and the lines of why there is none
abbrev pub IsPlannedBy : {A : Type 0} → Serving → Result (List Window) InputFault → Result (ServePlan A) ℕ
    → BytesWritten → BytesWritten → Type 0
IsPlannedBy serving (Ok feed) (Ok plan) old new =
    IsServePlan serving feed plan × AreReported (keeps_lines serving feed) old new
IsPlannedBy serving (Ok feed) (Err status) old new = ⊥
IsPlannedBy serving (Err fault) (Ok plan) old new = ⊥
IsPlannedBy serving (Err fault) (Err status) old new = (status ≡ 2) × AreReported (fill_lines fault) old new

-- what `serve` comes to before it opens a socket; the input decides it, but for memory
pub record IsServeRun {A : Type 0} (serving : Serving) (result : Result (ServePlan A) ℕ) (read : BytesRead)
    (reported_old reported_new : BytesWritten) : Type 0 where
  pub outcome : Result (List Window) InputFault
  pub filling : IsFilling serving outcome read
  pub only : IsOneFilling serving outcome read
  pub planned : IsPlannedBy serving outcome result reported_old reported_new

-- a new client of the places that were requested, which goes past holes where that was requested
abbrev pub first_client : Fetching → Listening
first_client fetching = new_client fetching.places modes.Fetch fetching.holes

-- it, and the other values
pub record IsFetchPlan (fetching : Fetching) (plan : FetchPlan) : Type 0 where
  pub host : plan.host ≡ fetching.server.host
  pub port : plan.port ≡ fetching.server.port
  pub tries : plan.tries ≡ fetching.tries
  pub timeout : plan.timeout ≡ fetching.server.timeout
  pub report_next : plan.report_next ≡ fetching.report_next
  pub client : plan.client ≡ first_client fetching
