-- What can be said of a series but for its samples.
use Rattle.std.specs.Prelude.{◌≢◌, ◌⊎◌, ℕ, ◌-◌, ◌<◌, ◌≤◌, List, [], ℤ, pos, ◌+ℤ◌, ◌-ℤ◌}
use Rattle.mseed_time.specs.Naming.{IsOutside}
use Rattle.mseed_time.specs.Rate.{Ratio}
use Rattle.mseed_time.specs.declared.outcome.LeapStep.{LeapStep}
use Rattle.mseed_audit.specs.Series.{Trace}
use Rattle.mseed_pack.specs.declared.span.Span.{Span}
use Rattle.mseed_pack.specs.Clock.{periods, reading_at}
use Rattle.mseed_pack.specs.Fitting.{HasTimeOutside, IsTooFast}
use Rattle.mseed_pack.specs.private.Spans.{IsSpan}

-- but for its samples, the series can be packed
pub record IsHeadFit (s : Trace) : Type 0 where
  pub some : s.samples ≢ []
  pub slow : ¬ (IsTooFast s)
  pub timed : ¬ (HasTimeOutside s)

-- of the spans of so many samples this is the first in which the instant of one can't be written
pub record IsSpanOutside (start : ℤ) (rate : Ratio) (steps : List (ℕ × LeapStep)) (size : ℕ)
    (span : Span) : Type 0 where
  pub standing : IsSpan steps size span
  pub some : span.begin < span.end
  pub within : span.end ≤ size
  pub before : (i : ℕ) → i < span.begin → ¬ (IsOutside (reading_at start rate steps i))
  pub ends : IsOutside (start +ℤ pos (periods rate span.begin) -ℤ span.added)
      ⊎ IsOutside (start +ℤ pos (periods rate (span.end - 1)) -ℤ span.added)
