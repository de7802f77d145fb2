-- What it means to split some bytes into records.
use Rattle.std.specs.Prelude.{◌≡◌, ℕ, ◌+◌, ◌-◌, ◌^◌, ◌<◌, ◌≤◌, List, map, length, take, drop}
use Rattle.std.specs.List.{concat}
use Rattle.mseed_record.specs.declared.fault.ViewFault.{ViewFault}
use Rattle.mseed_record.specs.declared.fault.ViewFault.TheVariants.{Not as Refused, Short}
use Rattle.mseed_record.specs.declared.view.RecordView.{RecordView}
use Rattle.mseed_record.specs.Record.{IsRecord}
use Rattle.mseed_record.specs.Viewing.{view_of}
use Rattle.mseed_stream.specs.Archive.{IsArchive, HasRecords, End, IsEndOf, frame, truncated}
use Rattle.mseed_stream.specs.declared.fault.StreamFault.{StreamFault}
use Rattle.mseed_stream.specs.declared.fault.StreamFault.TheVariants.{Frame, Truncated, Read, Turns, Memory}

-- the bytes of each record
abbrev pub bytes_of_each : List RecordView → List (List ℕ)
bytes_of_each views = map (λ r. (view_of r).bytes) views

-- fewer than 2^40 records stand up to the offset, and the bytes after them end so
pub record EndsAfter (bytes : List ℕ) (offset : ℕ) (records : List (List ℕ)) (end : End) : Type 0 where
  pub archive : IsArchive bytes records (drop offset bytes)
  pub offset_is : length (concat records) ≡ offset
  pub few : length records < 2 ^ 40
  pub ends : IsEndOf (drop offset bytes) end

-- these records stand up to the offset, and a further one after them
pub record GoesOnAfter (bytes : List ℕ) (offset : ℕ) (records : List (List ℕ)) : Type 0 where
  pub before : HasRecords bytes offset records
  pub further : (k : ℕ) × ((k ≤ length (drop offset bytes)) × IsRecord (take k (drop offset bytes)))

-- what a fault means: the end of the bytes, the 2^40th record, or a record for which memory was requested
abbrev pub IsSplitFault : StreamFault → List ℕ → Type 0
IsSplitFault (Frame n f) bytes = (records : List (List ℕ)) × EndsAfter bytes n records (frame f)
IsSplitFault (Truncated n have) bytes = (records : List (List ℕ)) × EndsAfter bytes n records (truncated have)
IsSplitFault (Read n) bytes = ⊥
IsSplitFault (Turns n) bytes = (records : List (List ℕ)) × GoesOnAfter bytes n records × (length records + 1 ≡ 2 ^ 40)
IsSplitFault Memory bytes = (n : ℕ) × ((records : List (List ℕ)) × GoesOnAfter bytes n records)

-- the fault after an offset, by why no record begins there
abbrev pub fault_at : ℕ → ℕ → ViewFault → StreamFault
fault_at size offset (Refused f) = Frame offset f
fault_at size offset (Short k) = Truncated offset (size - offset)
