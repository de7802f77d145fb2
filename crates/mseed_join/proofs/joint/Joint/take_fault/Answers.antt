use Rattle.std.proofs.Common.{refl}
use Rattle.std.proofs.lemmas.Bool.{false≢true}
use Rattle.mseed_join.specs.Lines.{fault}
use Rattle.mseed_join.proofs.Onward.{onward}
use Rattle.mseed_join.proofs.Steps.{fault_kept, fault_passed, fault_refused, line_skipped, some_after}
use Rattle.mseed_join.proofs.joint.Joint.take_fault.Goals as goal

pub returns-in-Some-clause-step : goal.returns-in-Some-clause-step
returns-in-Some-clause-step g c =
    line_skipped c.args.self.now _ c.in-Some.is _ (fault c.args.bytes c.args.fault) tt refl

pub returns-then-not-self-clause-step : goal.returns-then-not-self-clause-step
returns-then-not-self-clause-step g c = λ lines s r l m.
    fault_kept c.args.self.now c.in_default.is _ c.if-not-self.true c.args.fault refl refl
    (some_after _ _ _ c.args.fault c.fault_after.ensures c.bytes.ensures)
    c.args.bytes s.over s.last lines r l (onward s.last _ m)

pub returns-in-Ok-clause-step : goal.returns-in-Ok-clause-step
returns-in-Ok-clause-step g c = λ lines s r l m.
    fault_passed c.args.self.now c.in_default.is _ c.if-not-self.false c.args.fault (c.in-Ok.ensures.fits.0 refl) refl
    c.in-Ok.ensures.value refl c.args.bytes s.over s.last lines r l (onward s.last _ m)

pub returns-in-Err-clause-step : goal.returns-in-Err-clause-step
returns-in-Err-clause-step g c = λ lines s r l m.
    fault_refused c.args.self.now c.in_default.is c.if-not-self.false c.args.fault
    (λ few. false≢true (c.in-Err.ensures.fits.1 few)) c.args.bytes s.over s.last lines r l (onward s.last _ m)
