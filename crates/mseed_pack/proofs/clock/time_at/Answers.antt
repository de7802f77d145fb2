use Rattle.std.proofs.Common.{◌≡◌, rules, to_z, of_z, pos, ◌+ℤ◌, ◌-ℤ◌, ◌∙◌}
use Rattle.std.proofs.lemmas.Int.{to_z-of_z}
use Rattle.mseed_time.specs.Ratios.{ratio_of}
use Rattle.mseed_pack.specs.Clock.{periods}
use mir.Syntax.{w128}
use Rattle.mseed_pack.proofs.clock.time_at.Goals as goal

same : (c : goal.After-time_of) → to_z w128 (of_z w128 c.instant_at-instant.result)
    ≡ c.args.start +ℤ pos (periods (ratio_of c.args.rate) c.args.index) -ℤ c.args.span.added
same c = to_z-of_z w128 c.instant_at-instant.result (search rules) ∙ c.instant_at-instant.ensures

pub returns-clause-none : goal.returns-clause-none
returns-clause-none c = rw (same c) at c.time_of.ensures.none

pub returns-clause-names : goal.returns-clause-names
returns-clause-names c = rw (same c) at c.time_of.ensures.names
