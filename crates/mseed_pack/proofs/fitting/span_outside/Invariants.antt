use Rattle.std.proofs.Common.{◌<◌, ◌-◌, ℕ}
use Rattle.mseed_time.specs.Naming.{IsOutside}
use Rattle.mseed_time.specs.Ratios.{ratio_of}
use Rattle.mseed_pack.specs.Clock.{reading_at}
use Rattle.mseed_pack.specs.private.Spans.{IsSpan}
use Rattle.mseed_pack.proofs.fitting.span_outside.Given as goal

abbrev pub invariant-loop-span : goal.invariant-loop-span
invariant-loop-span l = record {
  standing : IsSpan l.steps l.size l.span;
  timed : (i : ℕ) → i < l.span.begin → ¬ (IsOutside (reading_at l.start (ratio_of l.rate) l.steps i));
}

abbrev pub decreases-loop-span : goal.decreases-loop-span
decreases-loop-span l = l.size - l.span.begin
