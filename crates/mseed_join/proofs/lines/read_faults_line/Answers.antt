use Rattle.mseed_join.proofs.Lined.{faults_lined}
use Rattle.mseed_join.proofs.lines.read_faults_line.Goals as goal

pub returns : goal.returns
returns c =
    let is = faults_lined c.args.line.now c.faults_at.result c.faults_at.ensures in
    record { read = is.0; fits = is.1; none = is.2 }
