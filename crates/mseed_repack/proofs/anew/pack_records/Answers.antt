use Rattle.std.proofs.Common.{map}
use Rattle.mseed_record.specs.Viewing.{view_of}
use Rattle.mseed_repack.proofs.Outcomes.{AreJudged, as_found, broken_refused, first_refused, packed}
use Rattle.mseed_repack.proofs.Outcomes.{packed_in_part}
use Rattle.mseed_repack.proofs.Planning.{packabilities_of}
use Rattle.mseed_repack.proofs.Wholes.{archive_of}
use Rattle.mseed_stream.specs.Device.{BytesRead}
use Rattle.mseed_repack.specs.Repack.{IsWhole}
use Rattle.mseed_repack.proofs.anew.pack_records.Given.{Over}
use Rattle.mseed_repack.proofs.anew.pack_records.Goals.{After-pack_channels}
use Rattle.mseed_repack.proofs.anew.pack_records.Goals as goal

pub refusal_unless-requires : goal.refusal_unless-requires
refusal_unless-requires g c = record {
  audited = c.archive-archive.ensures.audited;
  each = rw c.archive-archive.ensures.channels
      (as_found c.as_slice-channels.result.now _ _ _ c.deref.ensures.value c.in_ok-planned.ensures.ready);
  found = rw (c.archive-archive.ensures.views, c.archive-archive.ensures.channels, c.deref.ensures.value) (
    c.args.cutting,
    (
      c.args.options.now,
      packabilities_of c.as_slice-channels.result.now _ _
          c.in_ok-planned.ensures.ready,
    ),
  );
}

pub report_left_out-requires : goal.report_left_out-requires
report_left_out-requires g c =
    as_found c.as_slice-channels.result.now _ _ _ c.deref-3.ensures.value c.in_ok-planned.ensures.ready

pub returns-in-Some : goal.returns-in-Some
returns-in-Some g c = λ read place whole at.
    let views = map view_of c.args.views.now in
    broken_refused place c.args.options.now c.args.leave c.args.without_time read views c.as_slice-channels.result.now
    c.args.cutting c.in-Some.broken.0 c.in-Some.broken.1 (g.W.Sink.written c.args.output.now)
    (g.E.Sink.written c.args.errors.now)
    (archive_of whole c.in_ok-judged.ensures.verdicts c.as_slice-channels.ensures) c.in-Some.ensures.whole
    c.in-Some.ensures.some (c.in-Some.ensures.first (place views) at)

pub returns-in-Some-refusal_unless : goal.returns-in-Some-refusal_unless
returns-in-Some-refusal_unless g c = λ read place whole at.
    let views = map view_of c.args.views.now in
    first_refused place c.args.options.now c.args.leave c.args.without_time read views c.as_slice-channels.result.now
    c.args.cutting c.in-Some-refusal_unless.fault (g.W.Sink.written c.args.output.now)
    (g.E.Sink.written c.args.errors.now)
    (archive_of whole c.in_ok-judged.ensures.verdicts c.as_slice-channels.ensures)
    c.in_default.ensures.none c.in-Some-refusal_unless.ensures.refuses
    ((rw (c.deref.ensures.value, c.archive-archive.ensures.views, c.archive-archive.ensures.channels) at
    c.in-Some-refusal_unless.ensures.some) c.args.cutting c.args.options.now (place views) at
    (packabilities_of c.as_slice-channels.result.now _ _ c.in_ok-planned.ensures.ready))

pub pack_channels-requires : goal.pack_channels-requires
pack_channels-requires g c = record {
  audited = c.archive-archive.ensures.audited;
  ready = rw (
    c.deref_mut.ensures.value,
    c.deref_mut-2.ensures.value,
    c.archive-archive.ensures.views,
    c.archive-archive.ensures.channels,
    c.deref-4.ensures.value,
    c.deref-5.ensures.value,
  ) c.in_ok-planned.ensures.ready;
}

-- what is known of the channels before any is written
judged : (g : Over) (c : After-pack_channels g) (read : BytesRead) → IsWhole read (map view_of c.args.views.now)
    → AreJudged c.args.cutting c.args.options.now c.args.leave read (map view_of c.args.views.now)
    c.as_slice-channels.result.now c.in_ok-planned.planned.packabilities.items
judged g c read whole = record {
  archive = archive_of whole c.in_ok-judged.ensures.verdicts c.as_slice-channels.ensures;
  continuous = c.in_default.ensures.none;
  found = packabilities_of c.as_slice-channels.result.now _ _ c.in_ok-planned.ensures.ready;
  fit = rw c.deref.ensures.value at c.in_default-refusal_unless.ensures.fit;
}

pub returns-in-Ok : goal.returns-in-Ok
returns-in-Ok g c = λ read place whole at.
    rw (c.left_out_of-left.ensures, c.deref-2.ensures.value)
    (packed _ _ _ _ _ _ _ c.args.cutting _ (g.W.Sink.written c.args.output.now) (g.W.Sink.written
    c.pack_channels.new.output) (g.E.Sink.written c.args.errors.now)
    (g.E.Sink.written c.report_if_left.new.errors) (g.E.Sink.written c.report_left_out.new.errors)
    (judged g (goal.at.returns-in-Ok g c).After-pack_channels read whole)
    (rw (c.left_out_of-left.ensures, c.deref-2.ensures.value) at c.report_if_left.ensures)
    (rw c.deref-3.ensures.value at c.report_left_out.ensures)
    (rw (c.archive-archive.ensures.views, c.archive-archive.ensures.channels, c.deref-4.ensures.value) at
    c.in-Ok.ensures.ok))

pub returns : goal.returns
returns g c = λ read place whole at.
    packed_in_part _ _ _ _ _ _ _ c.args.cutting _ (g.W.Sink.written c.args.output.now) (g.W.Sink.written
    c.pack_channels.new.output) (g.E.Sink.written c.args.errors.now)
    (g.E.Sink.written c.report_if_left.new.errors) (g.E.Sink.written c.report_left_out.new.errors)
    (judged g (goal.at.returns g c).After-pack_channels read whole)
    (rw (c.left_out_of-left.ensures, c.deref-2.ensures.value) at c.report_if_left.ensures)
    (rw c.deref-3.ensures.value at c.report_left_out.ensures)
    (rw (c.archive-archive.ensures.views, c.archive-archive.ensures.channels, c.deref-4.ensures.value) at
    c.in-Err.ensures.err)
