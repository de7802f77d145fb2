-- The trace of a series that is borrowed, or that begins so.
use Rattle.std.specs.Prelude.{List, ℤ}
use Rattle.mseed_audit.specs.Series.{Trace}
use Rattle.mseed_pack.specs.declared.series_head.SeriesHead.{SeriesHead}
use Rattle.mseed_pack.specs.declared.series_view.SeriesView.{SeriesView}

abbrev pub trace_of : SeriesView → Trace
trace_of s = record { codes = s.codes; start = s.start; rate = s.rate; samples = s.samples.now; steps = s.steps.now }

-- the trace of a series that begins so, of these samples
abbrev pub headed : SeriesHead → List ℤ → Trace
headed h samples = record { codes = h.codes; start = h.start; rate = h.rate; samples = samples; steps = h.steps.now }
