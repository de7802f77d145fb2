-- Samples that come as differences, some at a time.
use Rattle.std.specs.Prelude.{◌≡◌, ℕ, ◌+◌, ◌<◌, ◌≤◌, List, length, take, slice_index_or, slice_range, ℤ, pos}
use Rattle.mseed_pack.specs.declared.options.Options.{Options}
use Rattle.mseed_pack.specs.declared.series_head.SeriesHead.{SeriesHead}
use Rattle.mseed_pack.specs.Fitting.{Fits}
use Rattle.mseed_pack.specs.Stretches.{differences}
use Rattle.mseed_pack.specs.Traces.{headed}

-- the first `count` numbers of a list are the next differences of some samples, after those that were given: some,
-- where any is left and the list isn't empty
pub record IsNextGiven (samples : List ℤ) (given : ℕ) (out : List ℤ) (count : ℕ) : Type 0 where
  pub inside : given + count ≤ length samples
  pub items : take count out ≡ slice_range (differences samples) given (given + count)
  pub some : given < length samples → 0 < length out → 0 < count

-- a supply of all samples of a series that begins so, and fits
pub record SuppliesFitting {S : Type 0} (supplies : S → List ℤ → ℕ → Type 0) (supply : S) (h : SeriesHead) (o : Options)
    (samples : List ℤ) : Type 0 where
  pub supplied : supplies supply samples 0
  pub count : length samples ≡ h.count
  pub first : slice_index_or samples 0 (pos 0) ≡ h.first
  pub fits : Fits (headed h samples) o
