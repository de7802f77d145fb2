use Rattle.std.proofs.Common.{◌+◌, arith}
use Rattle.mseed_audit.proofs.Steps.{all_within_more}
use Rattle.mseed_audit.proofs.audits.Audit.pass.Goals as goal

pub invariant_of-self : goal.invariant_of-self
invariant_of-self g c =
    all_within_more c.self.inside.added (c.self.inside.added + 1) c.self.inside.roster (omega arith) c.self.invariant

pub returns-clause-passes : goal.returns-clause-passes
returns-clause-passes g c = λ ps count h.
    let is = rw (← c.self.view_is) at h in record { number = omega (arith, is.number); each = is.each }
