use Rattle.mseed_pack.proofs.Parted.{assembled, continuous, have_views, is_part, of_key}
use Rattle.mseed_pack.proofs.law.a_stretch_reads_back.Goals as goal

pub returns-clause-channel : goal.returns-clause-channel
returns-clause-channel c = of_key

pub returns-clause-continuous : goal.returns-clause-continuous
returns-clause-continuous c = continuous

pub returns-clause-part : goal.returns-clause-part
returns-clause-part c = λ s part before held after views reads are.
    is_part s before held after views reads are c.one_series.ensures.samples part

pub returns-clause-assembled : goal.returns-clause-assembled
returns-clause-assembled c = λ s before held after views answer reads are some.
    assembled s before held after views reads are some answer

pub returns-clause-views : goal.returns-clause-views
returns-clause-views c = have_views
