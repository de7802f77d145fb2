-- How a feed is filled: with the records of an archive, each in the ring of its place.
use Rattle.std.specs.Prelude.{◌≡◌, ◌⊎◌, ℕ, ◌+◌, List, [], ◌∷◌, ◌++◌, length, map, Some, None, Result, Ok, Err}
use Rattle.std.specs.List.{AllByRecursion, filter}
use Rattle.mseed_record.specs.View.{View}
use Rattle.mseed_stream.specs.Device.{BytesRead}
use Rattle.mseed_stream.specs.Walk.{AreAllViews, AreViews, bytes_in}
use Rattle.mseed_stream.specs.declared.fault.StreamFault.{StreamFault}
use Rattle.mseed_stream.specs.declared.fault.StreamFault.TheVariants.{Memory}
use Rattle.slink_wire.specs.Place.{Fields}
use Rattle.slink_feed.specs.Intake.{IsOfFeed, foreign_of, is_of_station}
use Rattle.slink_feed.specs.Window.{Window, window}
use Rattle.slink_feed.specs.declared.input.ForeignRecord.{ForeignRecord}
use Rattle.slink_feed.specs.declared.input.InputFault.{InputFault}
use Rattle.slink_feed.specs.declared.input.InputFault.TheVariants.{Stream, Foreign}
use Rattle.mseed_words.specs.declared.request.Serving.{Serving}

-- the places whose records are served
abbrev pub served : Serving → List Fields
served serving = map (λ p. p.0) serving.places

-- the records of a place, in their order
abbrev pub records_of : Fields → List (List ℕ) → List (List ℕ)
records_of place records = filter (is_of_station place) records

-- A place's ring, once these records were reported: it has the last ones of its place, as many as it keeps. The first
-- of its place had the first number.
abbrev pub ring_of : Serving → List (List ℕ) → Fields → Window
ring_of serving records place = record {
  place = place;
  capacity = serving.capacity;
  records = window serving.capacity (records_of place records);
  next = serving.first + length (records_of place records);
}

-- the rings of the places, in their order
abbrev pub feed_of : Serving → List (List ℕ) → List Window
feed_of serving records = map (ring_of serving records) (served serving)

-- The records are the feed's.
abbrev pub AreOfFeed : List Fields → List (List ℕ) → Type 0
AreOfFeed places records = AllByRecursion (IsOfFeed places) records

-- The input was read to its end, where a record ends. All its records are the feed's, and the rings have them.
pub record IsFilled (serving : Serving) (feed : List Window) (h : BytesRead) : Type 0 where
  pub views : List View
  pub all : AreAllViews h views None
  pub each : AreOfFeed (served serving) (bytes_in views)
  pub feed_is : feed ≡ feed_of serving (bytes_in views)

-- This record is the first of the input's that isn't the feed's. Its number is counted from 1.
pub record IsForeign (serving : Serving) (foreign : ForeignRecord) (h : BytesRead) : Type 0 where
  pub before : List View
  pub view : View
  pub offset : ℕ
  pub views : AreViews h.bytes offset (before ++ view ∷ [])
  pub fine : h.failures ≡ 0
  pub each : AreOfFeed (served serving) (bytes_in before)
  pub other : ¬ (IsOfFeed (served serving) view.bytes)
  pub foreign_is : foreign ≡ foreign_of (length before + 1) (length view.bytes) view.bytes

-- The input ended with a fault, after records that are all the feed's.
pub record IsBrokenOff (serving : Serving) (fault : StreamFault) (h : BytesRead) : Type 0 where
  pub views : List View
  pub all : AreAllViews h views (Some fault)
  pub each : AreOfFeed (served serving) (bytes_in views)

-- What filling a feed comes to: what is wrong first decides.
abbrev pub IsFilling : Serving → Result (List Window) InputFault → BytesRead → Type 0
IsFilling serving (Ok feed) h = IsFilled serving feed h
IsFilling serving (Err (Stream Memory)) h = h.failures ≡ 0
IsFilling serving (Err (Stream fault)) h = IsBrokenOff serving fault h
IsFilling serving (Err (Foreign foreign)) h = IsForeign serving foreign h

-- It comes to nothing else, but where memory was refused.
abbrev pub IsOneFilling : Serving → Result (List Window) InputFault → BytesRead → Type 0
IsOneFilling serving result h = (other : Result (List Window) InputFault) → IsFilling serving other h
    → (result ≡ Err (Stream Memory)) ⊎ ((other ≡ Err (Stream Memory)) ⊎ (result ≡ other))
