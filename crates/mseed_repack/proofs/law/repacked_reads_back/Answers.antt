use Rattle.mseed_repack.proofs.ReadBack.{reads_back}
use Rattle.mseed_repack.proofs.law.repacked_reads_back.Goals as goal

pub returns : goal.returns
returns c = reads_back c.reads_back.ensures c.archive_reads_back.ensures c.continuous_exactly.ensures
    c.one_series.ensures.series c.one_repacking.ensures
