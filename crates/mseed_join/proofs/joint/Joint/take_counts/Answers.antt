use Rattle.std.proofs.Common.{refl}
use Rattle.mseed_join.specs.Lines.{counts}
use Rattle.mseed_join.proofs.Onward.{onward}
use Rattle.mseed_join.proofs.Steps.{counts_added, counts_refused, line_skipped}
use Rattle.mseed_join.proofs.joint.Joint.take_counts.Goals as goal

pub returns-in-Some-clause-step : goal.returns-in-Some-clause-step
returns-in-Some-clause-step g c =
    line_skipped c.args.self.now _ c.in-Some.is _ (counts c.args.records c.args.bytes) tt refl

pub returns-in-Ok-clause-step : goal.returns-in-Ok-clause-step
returns-in-Ok-clause-step g c = λ lines s r l m.
    counts_added c.args.self.now c.in_default.is _ c.args.records c.args.bytes c.in-Ok.ensures.joined
    c.in-Ok.ensures.fits refl refl s.over s.last lines r l (onward s.last _ m)

pub returns-in-Err-clause-step : goal.returns-in-Err-clause-step
returns-in-Err-clause-step g c = λ lines s r l m.
    counts_refused c.args.self.now c.in_default.is c.args.records c.args.bytes c.in-Err.ensures.limit
    s.over s.last lines r l (onward s.last _ m)
