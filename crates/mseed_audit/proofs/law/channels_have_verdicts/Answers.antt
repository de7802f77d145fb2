use Rattle.mseed_audit.proofs.ChannelState.{channels_finished}
use Rattle.mseed_audit.proofs.law.channels_have_verdicts.Goals as goal

pub returns : goal.returns
returns c = channels_finished c.continuous_exactly.ensures
