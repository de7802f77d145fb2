use Rattle.std.proofs.Common.{arith, refl, rules, w32, ◌∙◌}
use Rattle.std.proofs.lemmas.Int.{to_z-of_z}
use Rattle.std.proofs.lemmas.Result.{IfErr-weaker, IfOk-weaker}
use Rattle.mseed_pack.specs.Traces.{headed, trace_of}
use Rattle.mseed_repack.proofs.Planning.{emitted}
use Rattle.mseed_repack.proofs.Stretched.{head_places}
use Rattle.mseed_repack.proofs.Supplied.{has_supply}
use Rattle.mseed_repack.proofs.series.pack_series.Goals as goal

pub outline_counted-borne-requires : goal.outline_counted-borne-requires
outline_counted-borne-requires g c κs =
    let goes = rw c.in-Frames.is at c.requires.goes in
    ((refl, tt), (c.requires.read, goes.2))

pub pack_supplied-requires : goal.pack_supplied-requires
pack_supplied-requires g c =
    let head = c.head_of-head.result in
    let h = c.outline_counted-borne.ensures.outline in
    let goes = rw c.in-Frames.is at c.requires.goes in
    let p = has_supply head c.args.options.now c.args.samples.now h goes.1 c.requires.read.walks.sound
    (c.head_of-head.ensures.series h.samples h.read.are) c.head_of-head.ensures.count (omega (arith, goes.3))
    c.head_of-head.ensures.first c.requires.fits c.one_series.ensures.series in
    let e = c.of-unpacking.ensures in
    let last = e.last ∙ to_z-of_z w32 head.first (search rules) in
    record {
      steim = goes.0;
      steps = head_places _ _ _ _ c.head_of-head.ensures.count c.head_of-head.ensures.steps h.read.places;
      supplied = (
        p.samples,
        record {
          supplied = rw (e.rest, last, e.room, e.at, e.end) (c.requires.read.walks.led, p.supplied);
          count = p.count;
          first = p.first_is;
          fits = p.fits;
        },
      );
    }

pub returns-in-Frames : goal.returns-in-Frames
returns-in-Frames g c =
    let head = c.head_of-head.result in
    let h = c.outline_counted-borne.ensures.outline in
    let goes = rw c.in-Frames.is at c.requires.goes in
    let p = has_supply head c.args.options.now c.args.samples.now h goes.1 c.requires.read.walks.sound
    (c.head_of-head.ensures.series h.samples h.read.are) c.head_of-head.ensures.count (omega (arith, goes.3))
    c.head_of-head.ensures.first c.requires.fits c.one_series.ensures.series in
    let e = c.of-unpacking.ensures in
    let last = e.last ∙ to_z-of_z w32 head.first (search rules) in
    emitted c.args.options.now (g.R.Walk.left c.args.records) (headed head p.samples) c.pack_supplied.result
    (g.W.Sink.written c.args.output.now) (g.W.Sink.written c.pack_supplied.new.sink) p.series
    (IfOk-weaker c.pack_supplied.result _ _ (λ count all. all p.samples (record {
      supplied = rw (e.rest, last, e.room, e.at, e.end) (c.requires.read.walks.led, p.supplied);
      count = p.count;
      first = p.first_is;
      fits = p.fits;
    })) c.pack_supplied.ensures.ok)
    (IfErr-weaker c.pack_supplied.result _ _ (λ taken part. part p.samples (record {
      supplied = rw (e.rest, last, e.room, e.at, e.end) (c.requires.read.walks.led, p.supplied);
      count = p.count;
      first = p.first_is;
      fits = p.fits;
    })) c.pack_supplied.ensures.err)

pub pack_fitting-requires-clause-fits : goal.pack_fitting-requires-clause-fits
pack_fitting-requires-clause-fits g c =
    let can = c.requires.fits in
    let series = c.series_of-series.ensures.series (g.R.Walk.left c.args.records) c.beginning-stretch.ensures
    c.read_records-read.ensures.read in
    rw (c.one_series.ensures.series can.trace (trace_of c.series_of-series.result) _ can.series series) at can.fits

pub returns-in-Listed : goal.returns-in-Listed
returns-in-Listed g c =
    emitted c.args.options.now (g.R.Walk.left c.args.records) (trace_of c.series_of-series.result)
    c.pack_fitting.result (g.W.Sink.written c.args.output.now) (g.W.Sink.written c.pack_fitting.new.sink)
    (c.series_of-series.ensures.series (g.R.Walk.left c.args.records) c.beginning-stretch.ensures
    c.read_records-read.ensures.read) c.pack_fitting.ensures.ok c.pack_fitting.ensures.err
