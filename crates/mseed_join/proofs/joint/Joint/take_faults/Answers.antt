use Rattle.std.proofs.Common.{refl}
use Rattle.std.proofs.lemmas.Bool.{false≢true}
use Rattle.mseed_join.specs.Lines.{faults}
use Rattle.mseed_join.proofs.Onward.{onward}
use Rattle.mseed_join.proofs.Steps.{faults_added, faults_refused, line_skipped}
use Rattle.mseed_join.proofs.joint.Joint.take_faults.Goals as goal

pub returns-in-Some-clause-step : goal.returns-in-Some-clause-step
returns-in-Some-clause-step g c =
    line_skipped c.args.self.now _ c.in-Some.is _ (faults c.args.faults) tt (rw c.requires refl)

pub returns-in-Ok-clause-step : goal.returns-in-Ok-clause-step
returns-in-Ok-clause-step g c = λ lines s r l m.
    faults_added c.args.self.now c.in_default.is _ c.args.bytes c.requires c.args.faults
    (c.in-Ok.ensures.fits.0 refl) refl c.in-Ok.ensures.value refl s.over s.last lines r l (onward s.last _ m)

pub returns-in-Err-clause-step : goal.returns-in-Err-clause-step
returns-in-Err-clause-step g c = λ lines s r l m.
    faults_refused c.args.self.now c.in_default.is c.args.faults (λ few. false≢true (c.in-Err.ensures.fits.1 few))
    s.over s.last lines r l (onward s.last _ m)
