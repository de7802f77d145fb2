-- What a cutter holds of what was read of its source, and what its results mean.
use Rattle.std.specs.Prelude.{⊤, ◌≡◌, ◌≢◌, Bool, true, false, ℕ, ◌+◌, ◌*◌, ◌^◌, ◌<◌, ◌≤◌, List, [], ◌∷◌, ◌++◌, length}
use Rattle.std.specs.Prelude.{take, drop, if◌then◌else◌, Option, Some, None, IfSome, IfErr, Result, Ok, Err}
use Rattle.std.specs.Io.KnownBytes.{Consumes, IsAtEnd}
use Rattle.mseed_record.specs.declared.framer.Scan.TheVariants.{Need}
use Rattle.mseed_record.specs.Record.{IsRecord}
use Rattle.mseed_record.specs.Scan.{Decides}
use Rattle.mseed_stream.specs.Device.{BytesRead}
use Rattle.mseed_stream.specs.CutterState.{CutterState}
use Rattle.mseed_stream.specs.Archive.{HasRecords, IsArchive, IsEndOf, clean, frame, truncated}
use Rattle.mseed_stream.specs.declared.cutter.Ending.{Ending}
use Rattle.mseed_stream.specs.declared.cutter.Ending.TheVariants.{Clean, Fault}
use Rattle.mseed_stream.specs.declared.fault.StreamFault.{StreamFault}
use Rattle.mseed_stream.specs.declared.fault.StreamFault.TheVariants.{Frame, Truncated, Read, Turns, Memory}

-- The lengths to which a record's bytes are read before they're looked at again: none, and then each that the
-- framing steps ask for at the one before.
pub data IsStop (bytes : List ℕ) : ℕ → Type 0 where
  at_start : IsStop bytes 0
  called_for : (m n : ℕ) → IsStop bytes m → m ≤ length bytes → Decides (take m bytes) (Need n) → IsStop bytes n

-- the bytes read from the offset on, by what is held
abbrev pub held_of : CutterState → List ℕ
held_of c = if c.is_lent then [] else c.prefix

-- what was read from an offset on
abbrev pub read_from : ℕ → BytesRead → List ℕ
read_from offset h = drop offset h.bytes

-- The bytes fall short of the stop that the framing steps ask for at an earlier one: so there's no record yet.
abbrev pub FallsShort : List ℕ → Type 0
FallsShort bytes = (n : ℕ) × (IsStop bytes n × (length bytes < n))

-- the bytes go up to a stop and no further, or fall short of one
abbrev pub IsReadTo : List ℕ → Bool → Type 0
IsReadTo bytes false = IsStop bytes (length bytes)
IsReadTo bytes true = FallsShort bytes

-- What a fault means, of the offset where the next record begins and of what was read. Bytes are refused once all
-- that was requested is there, or at the input's end; where a read failed or the reads ran out, more was requested.
abbrev pub IsCutFault : StreamFault → ℕ → BytesRead → Type 0
IsCutFault (Frame n f) offset h = (n ≡ offset) × IsEndOf (read_from offset h) (frame f)
    × IsReadTo (read_from offset h) h.is_at_end
IsCutFault (Truncated n have) offset h = (n ≡ offset) × IsEndOf (read_from offset h) (truncated have)
    × (h.is_at_end ≡ true)
IsCutFault (Read n) offset h = (n ≡ offset) × (0 < h.failures) × (h.is_at_end ≡ false) × FallsShort (read_from offset h)
IsCutFault (Turns n) offset h = (n ≡ offset) × (h.calls ≡ 2 ^ 40) × (h.is_at_end ≡ false)
    × FallsShort (read_from offset h)
IsCutFault Memory offset h = ⊤

-- the input ended where a record ended
abbrev pub IsCleanEnd : ℕ → BytesRead → Type 0
IsCleanEnd offset h = IsEndOf (read_from offset h) clean × (h.is_at_end ≡ true)

abbrev pub IsEnding : Ending → ℕ → BytesRead → Type 0
IsEnding Clean offset h = IsCleanEnd offset h
IsEnding (Fault e) offset h = IsCutFault e offset h × (e ≢ Memory)

-- A cutter holds of what its source gave the bytes from the offset on, and was alone to ask it.
pub record IsRead (h : BytesRead) (c : CutterState) : Type 0 where
  pub reported : length h.bytes ≡ c.offset + length (held_of c)
  pub held : read_from c.offset h ≡ held_of c
  pub reads : h.calls ≡ c.reads
  pub few_reads : c.reads ≤ 2 ^ 40
  pub few_bytes : length h.bytes ≤ 2 ^ 20 * c.reads
  pub within : length c.prefix ≤ c.room
  pub small : c.room ≤ 2 ^ 20

-- And it goes on, where the framing steps are to be taken next, or it has ended.
pub record IsAlong (h : BytesRead) (c : CutterState) : Type 0 where
  pub read : IsRead h c
  pub stop : c.answer ≡ None → IsStop (held_of c) (length (held_of c))
  pub asks : c.answer ≡ None → (k : ℕ) × Decides (held_of c) (Need k)
  pub going_on : c.answer ≡ None → h.is_at_end ≡ false
  pub ended : IfSome c.answer (λ e. IsEnding e c.offset h)

-- A record of `size` bytes begins what the source holds, and the cutter, which goes on and holds nothing, can go past
-- it.
pub record IsAhead (size : ℕ) (c : CutterState) (lent : List ℕ) : Type 0 where
  pub whole : size ≤ length lent
  pub is_record : IsRecord (take size lent)
  pub none : held_of c ≡ []
  pub goes_on : c.answer ≡ None
  pub turns : c.reads + 2 ≤ 2 ^ 40

-- what was read of a source, with a record more that it held whole: by two calls
abbrev pub lent_whole : BytesRead → List ℕ → BytesRead
lent_whole h bytes = record {
  bytes = h.bytes ++ bytes;
  calls = h.calls + 2;
  failures = h.failures;
  is_at_end = h.is_at_end;
}

-- what more a source gave, and what it's known to have left
abbrev pub GivesMore : BytesRead → BytesRead → Option (List ℕ) → Option (List ℕ) → Type 0
GivesMore old new left rest = (more : List ℕ) × (new.bytes ≡ old.bytes ++ more) × Consumes left rest more

-- whether less was read before a result than was requested: at the input's end, a failed read and the last read
abbrev pub is_short : {X : Type 0} → Result X StreamFault → Bool → Bool
is_short (Err (Read n)) is_at_end = true
is_short (Err (Turns n)) is_at_end = true
is_short (Err (Frame n f)) is_at_end = is_at_end
is_short (Err (Truncated n have)) is_at_end = is_at_end
is_short (Err Memory) is_at_end = false
is_short (Ok r) is_at_end = is_at_end

-- more room was needed than there was
abbrev pub NeedsRoom : ℕ → List ℕ → Type 0
NeedsRoom room bytes = (n : ℕ) × (room < n) × Decides bytes (Need n)

-- how far a result moves the offset: by the bytes of the record that it lends
abbrev pub moves_by : {X : Type 0} → Result (Option X) StreamFault → List ℕ → ℕ
moves_by (Ok (Some r)) bytes = length bytes
moves_by (Ok None) bytes = 0
moves_by (Err e) bytes = 0

-- how often at least a source was called for bytes that are held
abbrev pub asks_of : List ℕ → ℕ
asks_of [] = 0
asks_of (x ∷ xs) = 1

-- how many reads failed, by a fault
abbrev pub failed_reads : StreamFault → ℕ
failed_reads (Read n) = 1
failed_reads (Frame n f) = 0
failed_reads (Truncated n have) = 0
failed_reads (Turns n) = 0
failed_reads Memory = 0

-- and by a result
abbrev pub failed_by : {X : Type 0} → Result (Option X) StreamFault → ℕ
failed_by (Ok o) = 0
failed_by (Err e) = failed_reads e

-- what a cutter returns once it has ended
abbrev pub answer_of : {X : Type 0} → Ending → Result (Option X) StreamFault
answer_of Clean = Ok None
answer_of (Fault e) = Err e

-- how a result ends the cutter: all but a record and refused memory do
abbrev pub kept_of : {X : Type 0} → Result (Option X) StreamFault → Option Ending
kept_of (Ok (Some r)) = None
kept_of (Ok None) = Some Clean
kept_of (Err Memory) = None
kept_of (Err (Frame n f)) = Some (Fault (Frame n f))
kept_of (Err (Truncated n have)) = Some (Fault (Truncated n have))
kept_of (Err (Read n)) = Some (Fault (Read n))
kept_of (Err (Turns n)) = Some (Fault (Turns n))

-- how many records a result hands out
abbrev pub count_of : {X : Type 0} → Result (Option X) StreamFault → ℕ
count_of (Ok (Some r)) = 1
count_of (Ok None) = 0
count_of (Err e) = 0

-- the record that a result hands out
abbrev pub handed_by : {X : Type 0} → Result (Option X) StreamFault → List ℕ → List (List ℕ)
handed_by (Ok (Some r)) bytes = bytes ∷ []
handed_by (Ok None) bytes = []
handed_by (Err e) bytes = []

-- where a result ends the records: any but a record and refused memory
abbrev pub IfEnds : {X : Type 0} → Result (Option X) StreamFault → Type 0 → Type 0
IfEnds (Ok (Some r)) P = ⊤
IfEnds (Ok None) P = P
IfEnds (Err (Frame n f)) P = P
IfEnds (Err (Truncated n have)) P = P
IfEnds (Err (Read n)) P = P
IfEnds (Err (Turns n)) P = P
IfEnds (Err Memory) P = ⊤

-- What the next result says, by a cutter as it stood, what was read of its source before and after, and what the source
-- is known to have left.
pub record IsNextAnswer {X : Type 0} (result : Result (Option X) StreamFault) (c : CutterState) (old new : BytesRead)
    (left rest : Option (List ℕ)) : Type 0 where
  -- What was read before stays, and what the source is known to have left is what was read of it..
  pub more : GivesMore old new left rest
  -- ..up to its end where the input is at its end.
  pub known : c.answer ≡ None → new.is_at_end ≡ true → IsAtEnd rest
  -- There is no further record where the input ended after the last.
  pub end : result ≡ Ok None → IsCleanEnd c.offset new
  -- A fault is what became of the input, at the offset.
  pub fault : IfErr result (λ e. IsCutFault e c.offset new)
  -- A record is the next of the archive.
  pub records : (records : List (List ℕ)) → HasRecords old.bytes c.offset records
      → HasRecords new.bytes (c.offset + moves_by result (read_from c.offset new))
      (records ++ handed_by result (read_from c.offset new))
  -- Where the records end, those so far and the rest are the archive of the bytes read.
  pub archive : (records : List (List ℕ)) → HasRecords old.bytes c.offset records
      → IfEnds result (IsArchive new.bytes records (read_from c.offset new))
  -- Memory is requested only where framing asks for more bytes than the buffer has room for.
  pub memory : result ≡ Err Memory → NeedsRoom c.room (read_from c.offset new)
  -- No more is read than framing asks for, and less only at the end, a failed read or the last read.
  pub read_to : c.answer ≡ None → IsReadTo (read_from c.offset new) (is_short result new.is_at_end)
  -- A read failed exactly where the result says so.
  pub failed : c.answer ≡ None → new.failures ≡ old.failures + failed_by result
  -- A cutter that has ended returns the same again, and the source is not called.
  pub repeats : IfSome c.answer (λ e. (result ≡ answer_of e) × (new ≡ old))
  -- No more bytes are held than the longest record has.
  pub most : length new.bytes ≤ c.offset + 2 ^ 20
