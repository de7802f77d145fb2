-- What the parts of relaying come to.
use Rattle.std.specs.Prelude.{◌≡◌, ◌⊎◌, ◌++◌, ℕ, List, Result, Err}
use Rattle.std.specs.List.{concat}
use Rattle.mseed_record.specs.View.{View}
use Rattle.mseed_audit.specs.declared.assembly.NotContinuous.{NotContinuous}
use Rattle.mseed_audit.specs.declared.assembly.NotContinuous.TheVariants.{Memory}
use Rattle.mseed_audit.specs.Channels.{added_from, records_of}
use Rattle.mseed_audit.specs.Series.{Trace, IsSeries}
use Rattle.mseed_pack.specs.declared.options.Options.{Options}
use Rattle.mseed_pack.specs.Fitting.{Fits, IsMisfit}
use Rattle.mseed_pack.specs.Packing.{IsPacking}
use Rattle.mseed_pack.specs.ReadBack.{AreViewsOf, ReadsAs}
use Rattle.slink_model.specs.declared.relaying.RelayFault.{RelayFault}
use Rattle.slink_model.specs.declared.relaying.RelayFault.TheVariants as faults

-- the bytes of all records that the series is packed into
pub record IsPackedAs (s : Trace) (o : Options) (bytes : List ℕ) : Type 0 where
  pub fits : Fits s o
  pub records : List (List ℕ)
  pub packing : IsPacking s o records
  pub bytes_are : bytes ≡ concat records
  pub reads : ReadsAs s records

-- why there are none
abbrev pub FailsToPackAll : Trace → Options → RelayFault → Type 0
FailsToPackAll s o (faults.Pack fault) = IsMisfit s o fault
FailsToPackAll s o faults.Memory = Fits s o

-- the series of records by their views
pub record IsViewedAs (answer : Result Trace NotContinuous) (codes : List ℕ) (records : List (List ℕ)) : Type 0 where
  pub views : List View
  pub are_views : AreViewsOf records views
  pub series : IsSeries answer (records_of codes (added_from 0 views))

-- that, or no memory for it
abbrev pub IsOfRecords : Result Trace NotContinuous → List ℕ → List (List ℕ) → Type 0
IsOfRecords answer codes records = (answer ≡ Err Memory) ⊎ IsViewedAs answer codes records

-- They are some, one after another, of records that a series is packed into.
abbrev pub IsAmong : Trace → List (List ℕ) → List (List ℕ) → Type 0
IsAmong s records held =
    (before : List (List ℕ)) × (after : List (List ℕ)) × (records ≡ before ++ (held ++ after)) × ReadsAs s records
