use Rattle.mseed_pack.proofs.Called.{answered}
use Rattle.mseed_pack.proofs.law.called_continuous.Goals as goal

pub returns-clause-series : goal.returns-clause-series
returns-clause-series c = λ s records ps answer. answered c.one_series.ensures.series s records ps answer
