-- The input: records of the stations that are served, one after another.
use Rattle.std.specs.Prelude.{◌≡◌, ℕ, ◌*◌, ◌+◌, ◌<◌, ◌≤◌, ◌⊎◌, List, [], ◌∷◌, ◌++◌, length, take, slice_get, Some}
use Rattle.std.specs.List.{AllByRecursion, concat}
use Rattle.mseed_record.specs.declared.framer.Scan.TheVariants as scans
use Rattle.mseed_record.specs.Record.{IsRecord}
use Rattle.mseed_record.specs.Scan.{Decides}
use Rattle.mseed_stream.specs.declared.fault.StreamFault.TheVariants.{Frame, Truncated, Read, Turns, Memory}
use Rattle.slink_wire.specs.Place.{Bears, Fields}
use Rattle.slink_feed.specs.Intake.{foreign_of, places_of, pushed}
use Rattle.slink_feed.specs.Window.{Window}
use Rattle.slink_feed.specs.declared.input.InputFault.{InputFault}
use Rattle.slink_feed.specs.declared.input.InputFault.TheVariants.{Stream, Foreign}

-- The bytes are a record of 512 bytes, of one of the stations.
pub record IsOf (places : List Fields) (bytes : List ℕ) : Type 0 where
  pub size : length bytes ≡ 512
  pub is_record : IsRecord bytes
  pub k : ℕ
  pub place : Fields
  pub there : slice_get places k ≡ Some place
  pub bears : Bears bytes place

-- The bytes are such records, as far as they go, and then the rest, which begins with none.
pub record IsInput (places : List Fields) (bytes : List ℕ) (records : List (List ℕ)) (rest : List ℕ) : Type 0 where
  pub joined : bytes ≡ concat records ++ rest
  pub each : AllByRecursion (IsOf places) records
  pub no_further : ¬ (IsOf places (take 512 rest))

-- the rings, once records came, one after another
abbrev pub fed : List Window → List (List ℕ) → List Window
fed feed [] = feed
fed feed (bytes ∷ records) = fed (pushed feed bytes) records

-- The rings are those of the beginning, once all records came that the input gave so far, and this is left of it.
pub record IsFedTo (start : List Window) (bytes : List ℕ) (feed : List Window) (rest : List ℕ) : Type 0 where
  pub records : List (List ℕ)
  pub input : IsInput (places_of start) bytes records rest
  pub feed_is : feed ≡ fed start records

abbrev pub IsFed : List Window → List ℕ → List Window → Type 0
IsFed start bytes feed = (rest : List ℕ) × IsFedTo start bytes feed rest

-- No record of these stations begins so: the record of this length that is there isn't one, or more bytes than 512 are
-- needed, at least `size`: those of the record, where its length is known by then.
abbrev pub IsForeign : List Fields → List ℕ → ℕ → Type 0
IsForeign places leading size = (Decides leading (scans.Record size) × ¬ (IsOf places (take size leading)))
    ⊎ (Decides leading (scans.Need size) × (512 < size))

-- What is wrong with the rest after `n` records: bytes that begin no record, or none of these stations; a record
-- that the input ended within; a read that failed, or 2^40 of them.
abbrev pub IsFaultIn : List Fields → ℕ → List ℕ → InputFault → Type 0
IsFaultIn places n rest (Stream (Frame offset fault)) = (leading more : List ℕ) × (rest ≡ leading ++ more)
    × Decides leading (scans.Not fault) × (offset ≡ 512 * n)
IsFaultIn places n rest (Stream (Truncated offset have)) = (0 < have) × (have ≡ length rest) × (have < 512)
    × (offset ≡ 512 * n)
IsFaultIn places n rest (Stream (Read offset)) = offset ≡ 512 * n
IsFaultIn places n rest (Stream (Turns offset)) = offset ≡ 512 * n
IsFaultIn places n rest (Stream Memory) = ⊥
IsFaultIn places n rest (Foreign foreign) = (leading more : List ℕ) × (rest ≡ leading ++ more)
    × IsForeign places leading foreign.size × (foreign ≡ foreign_of (n + 1) foreign.size leading)

-- A record of these 512 bytes may begin so: there are none yet, or more are needed, up to 512 in all.
abbrev pub MayBegin : List ℕ → Type 0
MayBegin bytes = (bytes ≡ []) ⊎ ((k : ℕ) × Decides bytes (scans.Need k) × (k ≤ 512))

-- It is the bytes that are wrong, and neither the end of the input nor a read of it.
abbrev pub IsOfBytes : InputFault → Type 0
IsOfBytes (Stream (Frame offset fault)) = Unit {0}
IsOfBytes (Foreign foreign) = Unit {0}
IsOfBytes fault = ⊥

-- What is wrong with an input that gave these bytes.
pub record IsInputFault (places : List Fields) (bytes : List ℕ) (fault : InputFault) : Type 0 where
  pub records : List (List ℕ)
  pub rest : List ℕ
  pub input : IsInput places bytes records rest
  pub is_fault : IsFaultIn places (length records) rest fault
