use Rattle.mseed_audit.proofs.OneSeries.{joined_one, series_one}
use Rattle.mseed_audit.proofs.law.one_series.Goals as goal

pub returns-clause-samples : goal.returns-clause-samples
returns-clause-samples c = λ vs s t. joined_one c.one_reading.ensures vs s t

pub returns-clause-series : goal.returns-clause-series
returns-clause-series c = λ s t vs. series_one c.one_reading.ensures s t vs
