use Rattle.mseed_pack.specs.Traces.{trace_of}
use Rattle.mseed_repack.proofs.Stretched.{series_fits, series_misfits}
use Rattle.mseed_repack.proofs.series.fit_read.Goals as goal

pub returns-in-Ok : goal.returns-in-Ok
returns-in-Ok g c = record {
  fitting = (
    series_fits c.args.options.now (g.R.Walk.left c.args.records) (trace_of c.series_of-series.result)
        (c.series_of-series.ensures.series (g.R.Walk.left c.args.records) c.beginning-stretch.ensures
        c.read_records-read.ensures.read) c.in-Ok.ensures.fits,
    c.requires.samples_fit,
  );
  listed = λ count e. cc;
}

pub returns-in-Err : goal.returns-in-Err
returns-in-Err g c = record {
  fitting = series_misfits c.args.options.now (g.R.Walk.left c.args.records) (trace_of c.series_of-series.result)
      c.in-Err.fault (c.series_of-series.ensures.series (g.R.Walk.left c.args.records) c.beginning-stretch.ensures
      c.read_records-read.ensures.read) c.in-Err.ensures.fault;
  listed = λ count e. cc;
}
