use Rattle.std.proofs.Common.{◌≡◌, take}
use Rattle.mseed_audit.specs.Series.{AreSteps}
use Rattle.mseed_audit.proofs.Places.{place_of}
use Rattle.mseed_audit.proofs.channel_series.first_bad.Given as goal

abbrev pub invariant-loop-index : goal.invariant-loop-index
invariant-loop-index l = AreSteps l.size (take l.index l.steps) × (l.before ≡ place_of 0 (take l.index l.steps))
