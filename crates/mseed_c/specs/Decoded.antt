-- What the record at the beginning of some bytes gives.
use Rattle.std.specs.Prelude.{◌≡◌, ◌≤◌, ◌<◌, ℕ, ℤ, List, length, take, drop, Result, Ok, Err}
use Rattle.mseed_record.specs.View.{View, IsView}
use Rattle.mseed_record.specs.Scan.{Decides, HasNoRecord, Needs}
use Rattle.mseed_record.specs.declared.framer.Scan.TheVariants.{Need, Not as Refused}
use Rattle.mseed_steim.specs.Reading.{count_of, IsFault, IsWhole}
use Rattle.mseed_c.specs.declared.codes.Stop.{Stop}
use Rattle.mseed_c.specs.declared.codes.Stop.TheVariants.{Rows, Room, Short, Not}
use Rattle.mseed_c.specs.declared.codes.SampleFault.{SampleFault}
use Rattle.mseed_c.specs.declared.codes.SampleFault.TheVariants.{Read, Stop as Stopped}

-- the record begins the bytes
pub record IsFirst (bytes : List ℕ) (v : View) : Type 0 where
  pub view : IsView v
  pub prefix : v.bytes ≡ take (length v.bytes) bytes

-- why no record is read from the bytes: none begins them, or more are needed before that is known, and how many
abbrev pub IsStopAt : List ℕ → Stop → Type 0
IsStopAt bytes Rows = ⊥
IsStopAt bytes (Room places) = ⊥
IsStopAt bytes (Short k) = Decides bytes (Need k) × Needs bytes k
IsStopAt bytes (Not fault) = Decides bytes (Refused fault) × HasNoRecord bytes

-- The samples stand at the beginning of the places, and they are the record's one reading, which ends on its constant.
-- What lies after the places of as many samples as the record has stays.
pub record IsFilled (v : View) (old new : List ℤ) (n : ℕ) : Type 0 where
  pub count : n ≡ count_of v
  pub fits : n ≤ length new
  pub whole : 0 < n → IsWhole v (take n new)
  pub after : drop n new ≡ drop n old

-- Or why there are none: with a fault of the record, what its places hold is open, and what lies after them stays;
-- where there's no room for them, all stays.
abbrev pub IsTaken : View → List ℤ → List ℤ → Result ℕ SampleFault → Type 0
IsTaken v old new (Ok n) = IsFilled v old new n
IsTaken v old new (Err (Read fault)) =
    (0 < count_of v) × IsFault v fault × (count_of v ≤ length new) × (drop (count_of v) new ≡ drop (count_of v) old)
IsTaken v old new (Err (Stopped (Room n))) = (n ≡ count_of v) × (length new < n) × (new ≡ old)
IsTaken v old new (Err (Stopped stop)) = ⊥

-- the same of the record that begins the bytes, or why there's none; then all stays
abbrev pub IsDecoded : List ℕ → List ℤ → List ℤ → Result ℕ SampleFault → Type 0
IsDecoded bytes old new (Ok n) = (v : View) × (IsFirst bytes v × IsTaken v old new (Ok n))
IsDecoded bytes old new (Err (Read fault)) = (v : View) × (IsFirst bytes v × IsTaken v old new (Err (Read fault)))
IsDecoded bytes old new (Err (Stopped (Room n))) =
    (v : View) × (IsFirst bytes v × IsTaken v old new (Err (Stopped (Room n))))
IsDecoded bytes old new (Err (Stopped Rows)) = ⊥
IsDecoded bytes old new (Err (Stopped (Short k))) = IsStopAt bytes (Short k) × (new ≡ old)
IsDecoded bytes old new (Err (Stopped (Not fault))) = IsStopAt bytes (Not fault) × (new ≡ old)
