-- The series of a stretch, and whether it fits.
use Rattle.std.proofs.Common.{◌≡◌, ℕ, ◌+◌, ◌%◌, ◌<◌, ℤ, List, [], ◌∷◌, length}
use Rattle.std.proofs.Common.{refl, arith, All}
use Rattle.mseed_time.specs.declared.outcome.LeapStep.{LeapStep}
use Rattle.mseed_record.specs.View.{View}
use Rattle.mseed_audit.specs.Series.{AreSteps, Trace, IsSeriesOf}
use Rattle.mseed_repack.specs.declared.stretch.Stretch.{Stretch}
use Rattle.mseed_pack.specs.Stretches.{differences}
use Rattle.mseed_pack.specs.Fitting.{Fits, IsDifferenceOf, IsMisfit, IsSampleOf}
use Rattle.mseed_pack.specs.declared.fault.PackFault.{PackFault}
use Rattle.mseed_pack.specs.Traces.{headed}
use Rattle.mseed_pack.specs.declared.options.Options.{Options}
use Rattle.mseed_pack.specs.declared.series_head.SeriesHead.{SeriesHead}
use Rattle.mseed_repack.specs.Repack.{StretchFits, StretchMisfits}
use Rattle.mseed_repack.specs.Restretch.{IsNumberedOn}
use Rattle.mseed_repack.specs.private.Outline.{AreHeld}
use Rattle.mseed_repack.specs.private.Reading.{AreOf}
use Rattle.mseed_repack.specs.private.Planning.{IsBegunBy}

pub series_is : (s : Stretch) (vs : List View) (xs : List ℤ) (ss : List (ℕ × LeapStep)) → IsBegunBy s vs
    → AreOf vs xs ss
    → IsSeriesOf (record { codes = s.codes; start = s.start; rate = s.rate; samples = xs; steps = ss }) vs
series_is s [] xs ss is are = absurd is
series_is s (first ∷ rest) xs ss is are = grind (arith)

pub series_fits : (o : Options) (vs : List View) (s : Trace) → IsSeriesOf s vs → Fits s o → StretchFits o vs
series_fits o vs s series fits = record { trace = s; series = series; fits = fits }

pub series_misfits : (o : Options) (vs : List View) (s : Trace) (fault : PackFault) → IsSeriesOf s vs
    → IsMisfit s o fault → StretchMisfits o fault vs
series_misfits o vs s fault series misfit = record { trace = s; series = series; misfit = misfit }

-- a series can be packed whose samples the encoding holds, where it can but for them
pub series_held : (o : Options) (vs : List View) (head : SeriesHead) (xs : List ℤ) → IsSeriesOf (headed head xs) vs
    → length xs ≡ head.count → AreHeld o.encoding xs
    → ((samples : List ℤ) (options : Options) → length samples ≡ head.count
    → All (IsSampleOf options.encoding) samples → All (IsDifferenceOf options.encoding) (differences samples)
    → Fits (headed head samples) options) → StretchFits o vs
series_held o vs head xs h h2 h3 h4 = search (arith, series_fits)

-- the leap seconds of its samples
pub head_places : (m n : ℕ) (ss ts : List (ℕ × LeapStep)) → m ≡ n → ts ≡ ss → AreSteps n ss → AreSteps m ts
head_places m n ss ts h h2 h3 = grind (arith)

-- what fits doesn't depend on the sequence number
pub fits_on : (o next : Options) (n : ℕ) (vs : List View) → IsNumberedOn o n next → StretchFits o vs
    → StretchFits next vs
fits_on o next n vs on h = record {
  trace = h.trace;
  series = h.series;
  fits = grind (arith, h.fits, on.encoding_is);
}

-- sequence numbers run on

wraps : (a n c : ℕ) → ((a + n) % 1_000_000 + c) % 1_000_000 ≡ (a + (n + c)) % 1_000_000
wraps a n c = omega arith

kept : (a : ℕ) → a < 1_000_000 → a ≡ (a + 0) % 1_000_000
kept a few = omega (arith, few)

pub on_none : (o : Options) → o.first_sequence < 1_000_000 → IsNumberedOn o 0 o
on_none o few = record { exponent_is = refl; encoding_is = refl; sequence_is = kept o.first_sequence few }

pub on_more : (o next further : Options) (n c : ℕ) → IsNumberedOn o n next → IsNumberedOn next c further
    → IsNumberedOn o (n + c) further
on_more o next further n c h h2 = grind (arith, wraps)
