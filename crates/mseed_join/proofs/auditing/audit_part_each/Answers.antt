use Rattle.mseed_stream.specs.Device.{BytesRead}
use Rattle.mseed_audit.specs.Scope.{whole}
use Rattle.mseed_audit.proofs.Gathers.{memory_short}
use Rattle.mseed_stream.proofs.Calls.{writes_on}
use Rattle.mseed_join.proofs.Parting.{reported_cut_off, reported_written}
use Rattle.mseed_join.proofs.auditing.audit_part_each.Goals as goal

pub returns-in-Err-clause-outcome : goal.returns-in-Err-clause-outcome
returns-in-Err-clause-outcome g c =
    let lines = c.in_ok-audit.ensures.reported in
    memory_short whole (g.R.Source.read c.gather_each.new.source) (g.W.Sink.written c.args.sink.now)
    (g.W.Sink.written c.gather_each.new.sink) c.gather_each.new.text.items lines.all.all.offset lines.views
    lines.reported lines.all.all.records lines.fine lines.lines lines.are_reported

pub returns-in-Ok-write_all_of-clause-outcome : goal.returns-in-Ok-write_all_of-clause-outcome
returns-in-Ok-write_all_of-clause-outcome g c =
    let lines = c.in_ok-audit.ensures.reported in
    let read : BytesRead = g.R.Source.read c.gather_each.new.source in
    let write = c.in-Ok-write_all_of.ensures in
    reported_written c.in-Ok.summary lines.views c.gather_each.new.text.items c.push_audited.new.text.items
    c.deref.result.now lines.reported (g.W.Sink.written c.args.sink.now) (g.W.Sink.written c.gather_each.new.sink)
    (g.W.Sink.written c.write_all_of.new.sink) (c.in-Ok.ensures read lines.views lines.all) lines.are_reported
    lines.lines c.deref.ensures.value write.ok lines.fine write.fine

pub returns-clause-outcome : goal.returns-clause-outcome
returns-clause-outcome g c =
    let lines = c.in_ok-audit.ensures.reported in
    let read : BytesRead = g.R.Source.read c.gather_each.new.source in
    let write = c.in-Err-write_all_of.ensures in
    reported_cut_off c.in-Ok.summary c.in-Err-write_all_of.field-0 lines.views c.gather_each.new.text.items
    c.push_audited.new.text.items lines.reported (g.W.Sink.written c.args.sink.now)
    (g.W.Sink.written c.gather_each.new.sink) (g.W.Sink.written c.write_all_of.new.sink)
    (c.in-Ok.ensures read lines.views lines.all) lines.are_reported lines.lines (record {
      text = rw c.deref.ensures.value at write.err;
      part = rw c.deref.ensures.value at write.within;
      failed = write.failed;
    }) lines.fine

pub returns-in-Ok-write_all_of-clause-writes : goal.returns-in-Ok-write_all_of-clause-writes
returns-in-Ok-write_all_of-clause-writes g c =
    writes_on _ _ _ _ _ _ _ _ _ c.in_ok-audit.ensures.writes c.in-Ok-write_all_of.ensures.writes

pub returns-clause-writes : goal.returns-clause-writes
returns-clause-writes g c =
    writes_on _ _ _ _ _ _ _ _ _ c.in_ok-audit.ensures.writes c.in-Err-write_all_of.ensures.writes
