use Rattle.std.proofs.Common.{◌<◌, ◌≤◌, ◌-◌, pos, ◌+ℤ◌, ◌-ℤ◌}
use Rattle.mseed_time.specs.Naming.{IsOutside}
use Rattle.mseed_time.specs.Ratios.{ratio_of}
use Rattle.mseed_pack.specs.Clock.{periods}
use Rattle.mseed_pack.proofs.fitting.first_outside.Given as goal

abbrev pub invariant-loop-inside : goal.invariant-loop-inside
invariant-loop-inside l = record {
  begin : l.span.begin ≤ l.inside;
  apart : l.inside < l.outside;
  end : l.outside < l.span.end;
  early : ¬ (IsOutside (l.start +ℤ pos (periods (ratio_of l.rate) l.inside) -ℤ l.span.added));
  late : IsOutside (l.start +ℤ pos (periods (ratio_of l.rate) l.outside) -ℤ l.span.added);
}

abbrev pub decreases-loop-inside : goal.decreases-loop-inside
decreases-loop-inside l = l.outside - l.inside
