use Rattle.mseed_repack.proofs.ChannelReadBack.{one_archive, one_packing}
use Rattle.mseed_repack.proofs.law.one_channel_packing.Goals as goal

pub returns-clause-channel : goal.returns-clause-channel
returns-clause-channel c = one_packing c.one_series.ensures.series c.one_packing.ensures.whole

pub returns-clause-archive : goal.returns-clause-archive
returns-clause-archive c = one_archive c.one_series.ensures.series c.one_packing.ensures.whole
