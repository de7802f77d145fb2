-- What a heading says.
use Rattle.std.specs.Prelude.{◌≡◌, ◌==◌, ℕ, ℤ, if◌then◌else◌, List, [], ◌∷◌, length, Option, Some, None, IsSome}
use Rattle.mseed_time.specs.Btime.{IsInstant}
use Rattle.mseed_time.specs.Rate.{rate_of}
use Rattle.mseed_time.specs.declared.outcome.LeapStep.{LeapStep}
use Rattle.mseed_time.specs.declared.outcome.LeapStep.TheVariants.{Plus, Minus}
use Rattle.mseed_audit.specs.Series.{Trace, AreSteps}
use Rattle.mseed_pack.specs.Options.{code_of, first_bad_option}
use Rattle.mseed_pack.specs.declared.options.BadOption.{BadOption}
use Rattle.mseed_pack.specs.declared.options.Options.{Options}
use Rattle.mseed_c.specs.declared.codes.Refusal.{Refusal}
use Rattle.mseed_c.specs.declared.codes.Refusal.TheVariants.{Option as BadOptions, Rate, Start, Leap}
use Rattle.mseed_c.specs.declared.heading.Heading.{Heading}

-- the power of two that a record's length is; 0 for a length that isn't written
abbrev pub exponent_of : ℕ → ℕ
exponent_of n =
    if n == 128 then 7
    else if n == 256 then 8
    else if n == 512 then 9
    else if n == 1024 then 10
    else if n == 2048 then 11
    else if n == 4096 then 12
    else 0

-- the first of a heading's options that can't be
abbrev pub bad_option_in : Heading → Option BadOption
bad_option_in h = first_bad_option (exponent_of h.length) h.encoding h.sequence

-- the options of a heading
pub record HasOptions (h : Heading) (o : Options) : Type 0 where
  pub length_is : o.exponent ≡ exponent_of h.length
  pub encoding_is : code_of o.encoding ≡ h.encoding
  pub sequence_is : o.first_sequence ≡ h.sequence

-- the leap second, by its kind
abbrev pub kind_of : LeapStep → ℕ
kind_of Plus = 1
kind_of Minus = 2

-- the leap seconds of `samples` samples: none, or one after some of them
pub data HasLeap (h : Heading) (samples : ℕ) : List (ℕ × LeapStep) → Type 0 where
  without_leap : h.leap ≡ 0 → HasLeap h samples []
  with_leap : (step : LeapStep) → h.leap ≡ kind_of step → AreSteps samples ((h.leap_after, step) ∷ [])
      → HasLeap h samples ((h.leap_after, step) ∷ [])

-- the series of a heading and samples
pub record IsSeriesOf (h : Heading) (samples : List ℤ) (s : Trace) : Type 0 where
  pub codes : s.codes ≡ h.key
  pub start : s.start ≡ h.start
  pub factor : s.rate.factor ≡ h.factor
  pub multiplier : s.rate.multiplier ≡ h.multiplier
  pub samples_are : s.samples ≡ samples
  pub steps : HasLeap h (length samples) s.steps

-- Why a heading is refused: the first reason that applies, in this order.
pub data IsRefusedFor (h : Heading) (samples : ℕ) : Refusal → Type 0 where
  bad_option : (bad : BadOption) → bad_option_in h ≡ Some bad → IsRefusedFor h samples (BadOptions bad)
  no_rate : bad_option_in h ≡ None → rate_of h.factor h.multiplier ≡ None → IsRefusedFor h samples Rate
  no_instant : bad_option_in h ≡ None → IsSome (rate_of h.factor h.multiplier) → ¬ (IsInstant h.start)
      → IsRefusedFor h samples Start
  bad_leap : bad_option_in h ≡ None → IsSome (rate_of h.factor h.multiplier) → IsInstant h.start
      → ((steps : List (ℕ × LeapStep)) → ¬ (HasLeap h samples steps)) → IsRefusedFor h samples Leap
