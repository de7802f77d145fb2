-- Which series are packed, and why others aren't.
use Rattle.std.specs.Prelude.{⊤, ◌≡◌, ◌≢◌, ℕ, ◌*◌, ◌<◌, List, [], length, slice_index_or, ℤ, pos, All}
use Rattle.mseed_time.specs.Naming.{IsOutside}
use Rattle.mseed_time.specs.Ratios.{ratio_of}
use Rattle.mseed_steim.specs.Spelling.{IsWithin}
use Rattle.mseed_audit.specs.Series.{Trace}
use Rattle.mseed_steim.specs.declared.encoding.Encoding.{Encoding}
use Rattle.mseed_steim.specs.declared.encoding.Encoding.TheVariants.{Int16, Int32, Steim1, Steim2}
use Rattle.mseed_pack.specs.declared.options.Options.{Options}
use Rattle.mseed_pack.specs.declared.fault.PackFault.{PackFault}
use Rattle.mseed_pack.specs.declared.fault.PackFault.TheVariants.{Empty, RateTooHigh, TimeOutOfRange, SampleTooLarge}
use Rattle.mseed_pack.specs.declared.fault.PackFault.TheVariants.{DifferenceTooLarge}
use Rattle.mseed_pack.specs.Clock.{instant_at}
use Rattle.mseed_pack.specs.Stretches.{differences}

-- more than 500,000 samples a second, so that half a period is less than a microsecond
abbrev pub IsTooFast : Trace → Type 0
IsTooFast s = 500_000 * (ratio_of s.rate).den < (ratio_of s.rate).num

-- some sample's instant can't be written: once it is rounded to a ten-thousandth of a second, it lies in no year from
-- 1900 to 2100
abbrev pub HasTimeOutside : Trace → Type 0
HasTimeOutside s = (i : ℕ) × ((i < length s.samples) × IsOutside (instant_at s i))

-- of `size` samples, whose instants these are, the one at this index is the first whose instant can't be written
pub record IsFirstOutside (instant : ℕ → ℤ) (size index : ℕ) : Type 0 where
  pub inside : index < size
  pub outside : IsOutside (instant index)
  pub before : (k : ℕ) → k < index → ¬ (IsOutside (instant k))

-- the encoding holds the number as a sample: the first and the last one of Steim frames have 32 bits too
abbrev pub IsSampleOf : Encoding → ℤ → Type 0
IsSampleOf Int16 z = IsWithin 16 z
IsSampleOf Int32 z = IsWithin 32 z
IsSampleOf Steim1 z = IsWithin 32 z
IsSampleOf Steim2 z = IsWithin 32 z

-- the encoding holds the number as a difference: the widest of Steim-1 has 32 bits, that of Steim-2 has 30
abbrev pub IsDifferenceOf : Encoding → ℤ → Type 0
IsDifferenceOf Int16 z = ⊤
IsDifferenceOf Int32 z = ⊤
IsDifferenceOf Steim1 z = IsWithin 32 z
IsDifferenceOf Steim2 z = IsWithin 30 z

-- the number at this index is the first that isn't such a one
pub record IsFirstNot (P : ℤ → Type 0) (xs : List ℤ) (index : ℕ) : Type 0 where
  pub inside : index < length xs
  pub not_it : ¬ (P (slice_index_or xs index (pos 0)))
  pub before : (k : ℕ) → k < index → P (slice_index_or xs k (pos 0))

-- the series can be packed
pub record Fits (s : Trace) (o : Options) : Type 0 where
  pub some : s.samples ≢ []
  pub slow : ¬ (IsTooFast s)
  pub timed : ¬ (HasTimeOutside s)
  pub samples : All (IsSampleOf o.encoding) s.samples
  pub differences_fit : All (IsDifferenceOf o.encoding) (differences s.samples)

-- why it can't: the first reason that applies, in this order, with the rate, the instant, the sample or the difference
pub data IsMisfit (s : Trace) (o : Options) : PackFault → Type 0 where
  no_sample : s.samples ≡ [] → IsMisfit s o Empty
  too_fast : s.samples ≢ [] → IsTooFast s → IsMisfit s o (RateTooHigh s.rate)
  time_outside : s.samples ≢ [] → ¬ (IsTooFast s) → (i : ℕ)
      → IsFirstOutside (λ (k : ℕ). instant_at s k) (length s.samples) i
      → IsMisfit s o (TimeOutOfRange i (instant_at s i))
  large_sample : s.samples ≢ [] → ¬ (IsTooFast s) → ¬ (HasTimeOutside s) → (i : ℕ)
      → IsFirstNot (IsSampleOf o.encoding) s.samples i
      → IsMisfit s o (SampleTooLarge i (slice_index_or s.samples i (pos 0)))
  large_difference : s.samples ≢ [] → ¬ (IsTooFast s) → ¬ (HasTimeOutside s) → All (IsSampleOf o.encoding) s.samples
      → (i : ℕ)
      → IsFirstNot (IsDifferenceOf o.encoding) (differences s.samples) i
      → IsMisfit s o (DifferenceTooLarge i (slice_index_or (differences s.samples) i (pos 0)))
