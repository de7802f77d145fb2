use Rattle.mseed_join.proofs.Lined.{fault_lined}
use Rattle.mseed_join.proofs.lines.read_fault_line.Goals as goal

pub returns : goal.returns
returns c =
    let is = fault_lined c.args.line.now c.args.bytes c.fault_at.result c.fault_at.ensures in
    record { read = is.0; fits = is.1; none = is.2 }
