use Rattle.mseed_audit.proofs.Gathers.{lined_in_part, lined_on}
use Rattle.mseed_audit.proofs.report.VecU8Report.write.Goals as goal

pub returns-in-Ok-clause-reported : goal.returns-in-Ok-clause-reported
returns-in-Ok-clause-reported g c = λ first reported before.
    let w = c.in-Ok.ensures in lined_on before _ _ _ w.writes _ w.ok w.fine

pub returns-in-Err-clause-reported : goal.returns-in-Err-clause-reported
returns-in-Err-clause-reported g c = λ first reported before.
    let w = c.in-Err.ensures in lined_in_part before _ _ _ w.writes _ w.err
