use Rattle.mseed_join.proofs.OneLine.{channel_one}
use Rattle.mseed_join.proofs.line_law.one_channel.Goals as goal

pub returns : goal.returns
returns c = channel_one
