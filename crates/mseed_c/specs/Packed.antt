-- What packing a series that lies in memory returns and writes.
use Rattle.std.specs.Prelude.{◌≡◌, ℕ, ℤ, List, length}
use Rattle.std.specs.List.{concat}
use Rattle.mseed_audit.specs.Series.{Trace}
use Rattle.mseed_pack.specs.Fitting.{Fits, IsMisfit}
use Rattle.mseed_pack.specs.Packing.{IsPacking}
use Rattle.mseed_pack.specs.declared.fault.PackFault.{PackFault}
use Rattle.mseed_pack.specs.declared.options.Options.{Options}
use Rattle.mseed_c.specs.Codes.{code_of_misfit, code_of_refusal, index_of}
use Rattle.mseed_c.specs.Heading.{HasOptions, IsRefusedFor, IsSeriesOf}
use Rattle.mseed_c.specs.Room.{overwritten}
use Rattle.mseed_c.specs.declared.codes.Refusal.{Refusal}
use Rattle.mseed_c.specs.declared.heading.Heading.{Heading}
use Rattle.mseed_c.specs.declared.packing.Packed.{Packed}

-- By the code: the records that the series is packed into stand in the room, as many bytes of them as it has; or the
-- series doesn't fit, and nothing was written. No memory is requested.
pub data IsPackedInto (s : Trace) (o : Options) (old new : List ℕ) (before reported : Packed) : ℕ → Type 0 where
  packed : (records : List (List ℕ)) → Fits s o → IsPacking s o records → new ≡ overwritten (concat records) old
      → reported ≡ record { records = length records; index = 0 } → IsPackedInto s o old new before reported 0
  misfit : (fault : PackFault) → IsMisfit s o fault → new ≡ old
      → reported ≡ record { records = 0; index = index_of fault }
      → IsPackedInto s o old new before reported (code_of_misfit fault)

-- the same of the series of a heading and samples; where the heading is refused, all stays
pub data IsPackOutcome (h : Heading) (samples : List ℤ) (old new : List ℕ) (before reported : Packed) : ℕ → Type 0 where
  refused : (refusal : Refusal) → IsRefusedFor h (length samples) refusal → new ≡ old → reported ≡ before
      → IsPackOutcome h samples old new before reported (code_of_refusal refusal)
  taken : (s : Trace) (o : Options) (code : ℕ) → IsSeriesOf h samples s → HasOptions h o
      → IsPackedInto s o old new before reported code → IsPackOutcome h samples old new before reported code
