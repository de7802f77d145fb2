use Rattle.mseed_join.proofs.Lined.{channel_lined}
use Rattle.mseed_join.proofs.lines.read_channel_line.Goals as goal

pub returns : goal.returns
returns c =
    let is = channel_lined c.args.line.now c.channel_at.result c.channel_at.ensures in
    record { read = is.0; fits = is.1; none = is.2 }
