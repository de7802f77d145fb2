-- The differences of a series, and how far a record can go on.
use Rattle.std.specs.Prelude.{ℕ, ◌==◌, nat_lt, List, [], ◌∷◌, length, slice_range, ℤ, pos, Option, Some, None}
use Rattle.std.specs.Prelude.{unwrap_or, option_map, find}
use Rattle.mseed_time.specs.declared.outcome.LeapStep.{LeapStep}
use Rattle.mseed_time.specs.declared.outcome.LeapStep.TheVariants.{Plus, Minus}
use Rattle.mseed_steim.specs.Samples.{differences_from}
use Rattle.mseed_audit.specs.Series.{Trace}

-- each sample minus the one before it; the first one's difference is 0
abbrev pub differences : List ℤ → List ℤ
differences [] = []
differences (x ∷ xs) = pos 0 ∷ differences_from x xs

-- how many samples stand before the next leap second, where `first` have been packed; all, where there's none left
abbrev pub span_end : Trace → ℕ → ℕ
span_end s first =
    unwrap_or (option_map (λ (step : ℕ × LeapStep). step.0)
    (find (λ (step : ℕ × LeapStep). nat_lt first step.0) s.steps)) (length s.samples)

-- the differences up to there
abbrev pub left_of : Trace → ℕ → List ℤ
left_of s first = slice_range (differences s.samples) first (span_end s first)

-- the activity flags of a record by the leap second at its end: bit 4 for one that was inserted, bit 5 for one that
-- was left out (SEED manual, chapter 8, field 12 of the fixed section)
abbrev pub flags_of : Option LeapStep → ℕ
flags_of None = 0
flags_of (Some Plus) = 16
flags_of (Some Minus) = 32

-- the leap second with `place` samples before it
abbrev pub step_after : Trace → ℕ → Option LeapStep
step_after s place = option_map (λ (step : ℕ × LeapStep). step.1)
    (find (λ (step : ℕ × LeapStep). step.0 == place) s.steps)
