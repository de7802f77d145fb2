use Rattle.mseed_pack.proofs.Timed.{timed}
use Rattle.mseed_pack.proofs.law.a_stretch_keeps_time.Goals as goal

pub returns : goal.returns
returns c = timed c.header_reads_back.ensures c.packed_spells.ensures.spelled c.one_reading.ensures
    c.one_series.ensures.samples
