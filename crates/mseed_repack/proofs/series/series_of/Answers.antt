use Rattle.mseed_repack.proofs.Stretched.{series_is}
use Rattle.mseed_repack.proofs.series.series_of.Goals as goal

pub returns-clause-series : goal.returns-clause-series
returns-clause-series c = λ vs is are.
    series_is c.args.stretch.now vs c.args.samples.now c.args.steps.now is are
