-- What the single steps of a cutter do: the reads for one stop, those for one record, and the answer by what was found.
use Rattle.std.specs.Prelude.{◌≡◌, Bool, true, false, ℕ, ◌+◌, ◌^◌, ◌<◌, ◌≤◌, List, [], length, Option, Some, None}
use Rattle.std.specs.Prelude.{Result, Ok, Err, take, vec_len}
use Rattle.mseed_record.specs.declared.framer.Scan.TheVariants.{Need}
use Rattle.mseed_record.specs.Record.{IsRecord}
use Rattle.mseed_record.specs.Scan.{Decides}
use Rattle.mseed_stream.specs.Device.{BytesRead}
use Rattle.mseed_stream.specs.CutterState.{CutterState}
use Rattle.mseed_stream.specs.Cutting.{IsCutFault, IsRead, IsReadTo, IsStop, NeedsRoom, asks_of, failed_reads}
use Rattle.mseed_stream.specs.Cutting.{held_of, is_short}
use Rattle.mseed_stream.specs.declared.cutter.Cutter.TheInside.{Inside}
use Rattle.mseed_stream.specs.declared.cutter.Ending.TheVariants.{Clean, Fault}
use Rattle.mseed_stream.specs.declared.fault.StreamFault.{StreamFault}
use Rattle.mseed_stream.specs.declared.fault.StreamFault.TheVariants.{Frame, Truncated, Read, Turns, Memory}

-- a cutter, by what it has
abbrev pub state_of : {A : Type 0} → Inside A → CutterState
state_of c = record {
  offset = c.offset;
  prefix = take c.have c.held.items;
  is_lent = c.is_lent;
  room = vec_len c.held;
  reads = c.reads;
  answer = c.ending;
}

-- once it has dropped the record that was lent
abbrev pub forgot : CutterState → CutterState
forgot c = record c { prefix = held_of c; is_lent = false }

-- some reads more, or none: what was read is held, and the rest of the cutter stays
pub record HoldsMore (c after : CutterState) (old new : BytesRead) : Type 0 where
  pub read : IsRead new after
  pub not_lent : after.is_lent ≡ false
  pub offset : after.offset ≡ c.offset
  pub answer : after.answer ≡ c.answer
  pub room : c.room ≤ after.room
  pub calls : old.calls ≤ new.calls
  pub quiet : new.calls ≤ old.calls → after.prefix ≡ c.prefix

-- what a fault means of the reads for one stop, and of the room that there was for so many bytes before them
abbrev pub IsFillFault : StreamFault → ℕ → CutterState → BytesRead → BytesRead → Type 0
IsFillFault (Frame n f) needed c old new = ⊥
IsFillFault (Truncated n have) needed c old new = ⊥
IsFillFault (Read n) needed c old new = (n ≡ c.offset) × (new.failures ≡ old.failures + 1) × (new.is_at_end ≡ false)
IsFillFault (Turns n) needed c old new = (n ≡ c.offset) × (new.failures ≡ old.failures) × (new.calls ≡ 2 ^ 40)
    × (new.is_at_end ≡ false)
IsFillFault Memory needed c old new = (c.room < needed) × (new ≡ old)

-- what the reads for one stop come to: all that was requested is held; or less, at the input's end or by a fault
abbrev pub IsFilled : Result Bool StreamFault → ℕ → CutterState → CutterState → BytesRead → BytesRead → Type 0
IsFilled (Ok false) needed c after old new = (length after.prefix ≡ needed) × (new.is_at_end ≡ false)
    × (new.failures ≡ old.failures) × (old.calls < new.calls)
IsFilled (Ok true) needed c after old new = (length after.prefix < needed) × (new.is_at_end ≡ true)
    × (new.failures ≡ old.failures) × (old.calls < new.calls)
IsFilled (Err e) needed c after old new = (length after.prefix < needed) × IsFillFault e needed c old new

-- the reads for a record may begin: the framing steps are to be taken next, of what is held
pub record MayCut (h : BytesRead) (c : CutterState) : Type 0 where
  pub read : IsRead h c
  pub not_lent : c.is_lent ≡ false
  pub stop : IsStop c.prefix (length c.prefix)
  pub asks : (k : ℕ) × Decides c.prefix (Need k)
  pub going_on : h.is_at_end ≡ false

-- they have come to a stop, or to the input's end before it
pub record IsCutting (c after : CutterState) (is_at_end : Bool) (old new : BytesRead) : Type 0 where
  pub holds : HoldsMore c after old new
  pub stop : IsReadTo after.prefix is_at_end
  pub end : new.is_at_end ≡ is_at_end
  pub header : c.prefix ≡ [] → new.calls ≤ old.calls + 1 → length after.prefix ≤ 48
  pub failures : new.failures ≡ old.failures

-- what was found at a stop: a record, nothing at the input's end, or a fault
abbrev pub IsFound : Result Bool StreamFault → CutterState → CutterState → BytesRead → BytesRead → Type 0
IsFound (Ok true) c after old new = IsRecord after.prefix × (new.is_at_end ≡ false)
    × (new.failures ≡ old.failures) × (old.calls + 2 ≤ new.calls + asks_of c.prefix)
IsFound (Ok false) c after old new = (after.prefix ≡ []) × (new.is_at_end ≡ true) × (new.failures ≡ old.failures)
IsFound (Err e) c after old new = IsCutFault e c.offset new × (new.failures ≡ old.failures + failed_reads e)
    × (e ≡ Memory → NeedsRoom c.room after.prefix × (new.is_at_end ≡ false))

-- what the reads for one record come to: what was read is held up to a stop, and what was found there
pub record IsCut (answer : Result Bool StreamFault) (c after : CutterState) (old new : BytesRead) : Type 0 where
  pub holds : HoldsMore c after old new
  pub stop : IsReadTo after.prefix (is_short answer new.is_at_end)
  pub found : IsFound answer c after old new

-- at the input's end: nothing is left, or so many bytes of what might have been a record
abbrev pub IsAnswerAtEnd : Result Bool StreamFault → ℕ → List ℕ → Type 0
IsAnswerAtEnd (Ok found) offset prefix = (found ≡ false) × (prefix ≡ [])
IsAnswerAtEnd (Err e) offset prefix = (e ≡ Truncated offset (length prefix)) × (0 < length prefix)

-- whether a record was found as the answer that lends it, of so many bytes
abbrev pub lent_of : ℕ → Result Bool StreamFault → Result (Option ℕ) StreamFault
lent_of n (Ok true) = Ok (Some n)
lent_of n (Ok false) = Ok None
lent_of n (Err e) = Err e

-- a cutter that found a record, or not, and then lends it or keeps its answer
abbrev pub after_found : CutterState → Result Bool StreamFault → CutterState
after_found c (Ok true) = record c { offset = c.offset + length c.prefix; is_lent = true }
after_found c (Ok false) = record c { answer = Some Clean }
after_found c (Err Memory) = c
after_found c (Err (Frame n f)) = record c { answer = Some (Fault (Frame n f)) }
after_found c (Err (Truncated n have)) = record c { answer = Some (Fault (Truncated n have)) }
after_found c (Err (Read n)) = record c { answer = Some (Fault (Read n)) }
after_found c (Err (Turns n)) = record c { answer = Some (Fault (Turns n)) }
