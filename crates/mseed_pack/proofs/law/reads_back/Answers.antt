use Rattle.mseed_pack.proofs.ReadBack.{reads_as}
use Rattle.mseed_pack.proofs.law.reads_back.Goals as goal

pub returns : goal.returns
returns c = reads_as c.header_reads_back.ensures c.packed_spells.ensures.spelled c.one_reading.ensures
