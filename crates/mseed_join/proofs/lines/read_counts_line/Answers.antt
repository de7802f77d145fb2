use Rattle.mseed_join.proofs.Lined.{counts_lined}
use Rattle.mseed_join.proofs.lines.read_counts_line.Goals as goal

pub returns : goal.returns
returns c =
    let is = counts_lined c.args.line.now c.counts_at.result c.counts_at.ensures in
    record { read = is.0; fits = is.1; none = is.2 }
