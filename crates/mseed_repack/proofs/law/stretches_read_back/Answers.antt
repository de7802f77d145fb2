use Rattle.mseed_repack.proofs.ChannelReadBack.{reads_back, stretched_back}
use Rattle.mseed_repack.proofs.law.stretches_read_back.Goals as goal

pub returns-clause-channel : goal.returns-clause-channel
returns-clause-channel c = reads_back c.reads_back.ensures c.one_series.ensures.series

pub returns-clause-archive : goal.returns-clause-archive
returns-clause-archive c = stretched_back c.reads_back.ensures c.one_series.ensures.series
