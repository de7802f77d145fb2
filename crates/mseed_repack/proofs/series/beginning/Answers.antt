use Rattle.std.proofs.Common.{subst, List}
use Rattle.std.specs.List.{AllByRecursion}
use Rattle.mseed_record.specs.View.{View}
use Rattle.mseed_audit.specs.Follows.{IsSound}
use Rattle.mseed_repack.proofs.CutStretches.{begun}
use Rattle.mseed_repack.proofs.series.beginning.Goals as goal

pub begin-requires : goal.begin-requires
begin-requires g c =
    let each = subst (λ (vs : List View). AllByRecursion IsSound vs) c.in-Some.ensures.next c.requires.sound in
    each.0.timed

pub returns : goal.returns
returns g c = begun _ _ _ _ c.in-Some.ensures.next c.begin.ensures.stretch

pub unreachable-requires : goal.unreachable-requires
unreachable-requires g c = c.requires.some c.in-None.ensures.next.0
