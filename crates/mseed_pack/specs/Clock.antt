-- What the clock reads at each sample of a series.
use Rattle.std.specs.Prelude.{ℕ, ◌*◌, ◌/◌, ◌^◌, nat_le, if◌then◌else◌, List, [], ◌∷◌, ℤ, pos, ◌+ℤ◌, ◌-ℤ◌, Some}
use Rattle.mseed_time.specs.declared.outcome.LeapStep.{LeapStep}
use Rattle.mseed_time.specs.Join.{step_of}
use Rattle.mseed_time.specs.Rate.{Ratio}
use Rattle.mseed_time.specs.Ratios.{ratio_of}
use Rattle.mseed_audit.specs.Series.{Trace}

-- the microseconds that the leap seconds with at most `place` samples before them added
abbrev pub added_before : List (ℕ × LeapStep) → ℕ → ℤ
added_before [] place = pos 0
added_before (step ∷ steps) place =
    (if nat_le step.0 place then step_of (Some step.1) else pos 0) +ℤ added_before steps place

-- the whole microseconds in `n` sample periods
abbrev pub periods : Ratio → ℕ → ℕ
periods rate n = n * rate.den * 10 ^ 6 / rate.num

-- The instant of a sample, which has `place` before it, as the clock reads it: the first sample's instant, the periods
-- since then rounded down, and a second less for each leap second that was inserted, more for each left out.
abbrev pub reading_at : ℤ → Ratio → List (ℕ × LeapStep) → ℕ → ℤ
reading_at start rate steps place = start +ℤ pos (periods rate place) -ℤ added_before steps place

-- the instant of a sample of a series
abbrev pub instant_at : Trace → ℕ → ℤ
instant_at s place = reading_at s.start (ratio_of s.rate) s.steps place
