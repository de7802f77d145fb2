use Rattle.std.proofs.Common.{◌≡◌, length}
use Rattle.mseed_join.specs.private.Reading.{more_at}
use Rattle.mseed_join.proofs.numbers.more_at.Given as goal

abbrev pub invariant-loop-rest : goal.invariant-loop-rest
invariant-loop-rest g l =
    more_at (g.N.Spelled.value l.number) l.rest ≡ more_at (g.N.Spelled.value l.initial.number) l.bytes

abbrev pub decreases-loop-rest : goal.decreases-loop-rest
decreases-loop-rest g l = length l.rest
