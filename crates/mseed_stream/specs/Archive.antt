-- What an archive is: records one after another, and what is left after the last.
use Rattle.std.specs.Prelude.{◌≡◌, ℕ, ◌≤◌, ◌<◌, List, [], ◌++◌, length, take}
use Rattle.std.specs.List.{concat, AllByRecursion}
use Rattle.mseed_record.specs.declared.fault.FrameFault.{FrameFault}
use Rattle.mseed_record.specs.declared.framer.Scan.TheVariants.{Need, Not}
use Rattle.mseed_record.specs.Record.{IsRecord}
use Rattle.mseed_record.specs.Scan.{Decides}

-- no prefix of the rest is a record
abbrev pub HasNoFurther : List ℕ → Type 0
HasNoFurther rest = (k : ℕ) → k ≤ length rest → IsRecord (take k rest) → ⊥

-- the bytes are the records, joined, and then the rest, no prefix of which is a record
pub record IsArchive (bytes : List ℕ) (records : List (List ℕ)) (rest : List ℕ) : Type 0 where
  pub joined : bytes ≡ concat records ++ rest
  pub each : AllByRecursion IsRecord records
  pub no_further : HasNoFurther rest

-- how an archive ends: after a record, with bytes that begin none, or within bytes that might have begun one
pub data End : Type 0 where
  clean : End
  frame : FrameFault → End
  truncated : ℕ → End

-- by the rest: clean where nothing is left; else a fault, by the first framing step that applies to it; else so
-- many bytes of what might have been a record
pub data IsEndOf (rest : List ℕ) : End → Type 0 where
  is_clean : rest ≡ [] → IsEndOf rest clean
  is_frame : (f : FrameFault) → Decides rest (Not f) → IsEndOf rest (frame f)
  is_truncated : (k : ℕ) → 0 < length rest → Decides rest (Need k) → IsEndOf rest (truncated (length rest))

-- the records and the rest are the only ones
abbrev pub HasOneArchive : List ℕ → Type 0
HasOneArchive bytes = (records others : List (List ℕ)) (rest left : List ℕ) → IsArchive bytes records rest
    → IsArchive bytes others left
    → (records ≡ others) × (rest ≡ left)

-- an archive's end is the only one
abbrev pub HasOneEnd : List ℕ → Type 0
HasOneEnd rest = (one other : End) → IsEndOf rest one → IsEndOf rest other → one ≡ other

-- these records stand one after another up to the offset
pub record HasRecords (bytes : List ℕ) (offset : ℕ) (records : List (List ℕ)) : Type 0 where
  pub joined : take offset bytes ≡ concat records
  pub each : AllByRecursion IsRecord records
