use Rattle.mseed_repack.proofs.Stretched.{series_is}
use Rattle.mseed_repack.proofs.series.head_of.Goals as goal

pub returns-clause-series : goal.returns-clause-series
returns-clause-series g c = λ xs are. series_is _ _ _ _ c.beginning-stretch.ensures are
