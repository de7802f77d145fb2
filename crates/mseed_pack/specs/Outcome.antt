-- What packing leaves behind.
use Rattle.std.specs.Prelude.{◌≡◌, ◌≢◌, ℕ, ◌+◌, ◌<◌, ◌≤◌, List, [], ◌∷◌, ◌++◌, length, take, drop, ℤ, pos}
use Rattle.std.specs.Prelude.{Result, Ok, Err, FitsSigned}
use Rattle.std.specs.Int.{w16}
use Rattle.std.specs.List.{concat}
use Rattle.mseed_time.specs.Btime.{IsInstant}
use Rattle.mseed_stream.specs.Device.{BytesWritten}
use Rattle.mseed_audit.specs.Series.{Trace, AreSteps}
use Rattle.mseed_pack.specs.declared.options.Options.{Options}
use Rattle.mseed_pack.specs.declared.fault.PackFault.{PackFault}
use Rattle.mseed_pack.specs.declared.fault.PackFault.TheVariants.{Empty, RateTooHigh, TimeOutOfRange, SampleTooLarge}
use Rattle.mseed_pack.specs.declared.fault.PackFault.TheVariants.{DifferenceTooLarge, Write}
use Rattle.mseed_pack.specs.Packing.{PacksUpTo, IsPacking}
use Rattle.mseed_pack.specs.Fitting.{Fits, IsMisfit}

-- what is so of the trace of every series, by the types of its parts
pub record IsTrace (s : Trace) : Type 0 where
  pub key : length s.codes ≡ 12
  pub start : IsInstant s.start
  pub factor : FitsSigned w16 s.rate.factor
  pub factor_counts : s.rate.factor ≢ pos 0
  pub multiplier : FitsSigned w16 s.rate.multiplier
  pub multiplier_counts : s.rate.multiplier ≢ pos 0
  pub steps : AreSteps (length s.samples) s.steps

-- the sink accepted the `count` records that the series is packed into, and none of its calls failed
pub record EmittedAll (s : Trace) (o : Options) (count : ℕ) (old new : BytesWritten) : Type 0 where
  pub records : List (List ℕ)
  pub packing : IsPacking s o records
  pub count_is : count ≡ length records
  pub bytes : new.bytes ≡ old.bytes ++ concat records
  pub failures : new.failures ≡ old.failures

-- The `count` records that the series is packed into stand in a room, as many bytes of them as it has. What lies
-- after them is what was there.
pub record FillsRoom (s : Trace) (o : Options) (count : ℕ) (old new : List ℕ) : Type 0 where
  pub records : List (List ℕ)
  pub packing : IsPacking s o records
  pub count_is : count ≡ length records
  pub bytes : new ≡ take (length old) (concat records) ++ drop (length (concat records)) old

-- The sink failed, once it had taken `taken` bytes of records that the series is packed into: all of those before the
-- last, and of that a part.
pub record EmittedPrefix (s : Trace) (o : Options) (taken : ℕ) (old new : BytesWritten) : Type 0 where
  pub records : List (List ℕ)
  pub last : List ℕ
  pub left : List ℤ
  pub packing : PacksUpTo s o (records ++ last ∷ []) left
  pub whole : length (concat records) ≤ taken
  pub part : taken < length (concat records) + length last
  pub bytes : new.bytes ≡ old.bytes ++ take taken (concat (records ++ last ∷ []))
  pub failures : new.failures ≡ old.failures + 1

-- a series that doesn't fit is refused before the sink is called
abbrev pub IsRefused : Trace → Options → PackFault → BytesWritten → BytesWritten → Type 0
IsRefused s o fault old new = IsMisfit s o fault × (new ≡ old)

-- by the answer: a series that fits was written, or a prefix of it; one that doesn't, not at all
abbrev pub IsOutcome : Result ℕ PackFault → Trace → Options → BytesWritten → BytesWritten → Type 0
IsOutcome (Ok count) s o old new = Fits s o × EmittedAll s o count old new
IsOutcome (Err (Write taken)) s o old new = Fits s o × EmittedPrefix s o taken old new
IsOutcome (Err Empty) s o old new = IsRefused s o Empty old new
IsOutcome (Err (RateTooHigh rate)) s o old new = IsRefused s o (RateTooHigh rate) old new
IsOutcome (Err (TimeOutOfRange i instant)) s o old new = IsRefused s o (TimeOutOfRange i instant) old new
IsOutcome (Err (SampleTooLarge i sample)) s o old new = IsRefused s o (SampleTooLarge i sample) old new
IsOutcome (Err (DifferenceTooLarge i difference)) s o old new =
    IsRefused s o (DifferenceTooLarge i difference) old new
