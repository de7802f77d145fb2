-- How bytes of the input are taken in.
use Rattle.std.specs.Prelude.{◌≡◌, ℕ, ◌+◌, ◌<◌, ◌≤◌, List, [], ◌++◌, length, take}
use Rattle.std.specs.List.{AllByRecursion, concat}
use Rattle.slink_wire.specs.Place.{Fields}
use Rattle.slink_feed.specs.declared.input.InputFault.{InputFault}
use Rattle.slink_feed.specs.Intake.{places_of, pushed}
use Rattle.mseed_record.specs.declared.framer.Scan.TheVariants as scans
use Rattle.mseed_record.specs.Scan.{Decides}
use Rattle.slink_live.specs.Input.{IsFaultIn, IsOf, IsOfBytes, fed}
use Rattle.slink_live.specs.Served.{IntakeState}

-- What is kept isn't whole yet; or it was a record, which its ring has now.
pub data LooksOn (old new : IntakeState) : Type 0 where
  waits : (k : ℕ) → Decides old.kept (scans.Need k) → k ≤ 512 → length old.kept < 512 → new ≡ old → LooksOn old new
  pushes : IsOf (places_of old.feed) old.kept
      → new ≡ record { feed = pushed old.feed old.kept; kept = []; records = old.records + 1 } → LooksOn old new

-- Whatever comes, no record of these stations begins with what is kept, and this is why.
pub record IsRefused (places : List Fields) (n : ℕ) (kept : List ℕ) (fault : InputFault) : Type 0 where
  pub none : (more : List ℕ) → ¬ (IsOf places (take 512 (kept ++ more)))
  pub is_fault : (more : List ℕ) → IsFaultIn places n (kept ++ more) fault
  pub of_bytes : IsOfBytes fault

-- The bytes that were kept and those after them were cut into records, which the rings have now, and this rest.
pub record Cuts (old : IntakeState) (bytes : List ℕ) (new : IntakeState) (rest : List ℕ) : Type 0 where
  pub records : List (List ℕ)
  pub joined : old.kept ++ bytes ≡ concat records ++ rest
  pub each : AllByRecursion (IsOf (places_of old.feed)) records
  pub feed_is : new.feed ≡ fed old.feed records
  pub counted : new.records ≡ old.records + length records

-- They go no further.
pub record CutsOff (old : IntakeState) (bytes : List ℕ) (new : IntakeState) (fault : InputFault) : Type 0 where
  pub rest : List ℕ
  pub cuts : Cuts old bytes new rest
  pub no_further : ¬ (IsOf (places_of old.feed) (take 512 rest))
  pub is_fault : IsFaultIn (places_of old.feed) new.records rest fault
  pub of_bytes : IsOfBytes fault
