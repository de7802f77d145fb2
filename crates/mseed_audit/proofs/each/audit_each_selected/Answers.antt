use Rattle.std.proofs.Common.{arith, inl}
use Rattle.mseed_stream.proofs.Calls.{writes_on}
use Rattle.mseed_audit.specs.Scope.{asked}
use Rattle.mseed_audit.proofs.Gathers.{each_short, each_written, lined_first, lines_fault, lines_outcome, memory_short}
use Rattle.mseed_audit.proofs.Views.{added_length}
use Rattle.mseed_audit.proofs.each.audit_each_selected.Goals as goal

pub gather_with-requires-clause-report : goal.gather_with-requires-clause-report
gather_with-requires-clause-report g c = lined_first _ _ _ _ c.new-text.ensures.items

pub returns-in-Ok-write_all_of-clause-outcome : goal.returns-in-Ok-write_all_of-clause-outcome
returns-in-Ok-write_all_of-clause-outcome g c =
    let found = c.in-Ok.ensures.gathered in
    let r = found.1.1 in
    each_written (c.in-Ok-push_finished.ensures _ _ found.0 found.1.0) r.are_reported r.stands.lines r.stands.fine _
    (rw c.deref.ensures.value at c.in-Ok-write_all_of.ensures.ok) c.in-Ok-write_all_of.ensures.fine

pub returns-clause-outcome : goal.returns-clause-outcome
returns-clause-outcome g c =
    let found = c.in-Ok.ensures.gathered in
    let r = found.1.1 in
    each_short (c.in-Ok-push_finished.ensures _ _ found.0 found.1.0) r.are_reported r.stands.lines r.stands.fine
    (g.W.Sink.written c.write_all_of.new.sink) _ (record {
      text = rw c.deref.ensures.value at c.in-Err-write_all_of.ensures.err;
      part = rw c.deref.ensures.value at c.in-Err-write_all_of.ensures.within;
      failed = c.in-Err-write_all_of.ensures.failed;
    })

pub returns-in-Err-push_finished-clause-outcome : goal.returns-in-Err-push_finished-clause-outcome
returns-in-Err-push_finished-clause-outcome g c =
    let found = c.in-Ok.ensures.gathered in
    let r = found.1.1 in
    let lines = memory_short (asked (g.C.Choice.selection c.args.choice.now)) _ (g.W.Sink.written c.args.sink.now)
    (g.W.Sink.written c.gather_with.new.output) _ _ found.0 _ found.1.0.all.all.records r.stands.fine r.stands.lines
    r.are_reported in (lines.0, inl lines.1)

pub returns-in-Err-clause-outcome : goal.returns-in-Err-clause-outcome
returns-in-Err-clause-outcome g c =
    lines_outcome (g.C.Choice.selection c.args.choice.now) c.in-Err.fault (g.R.Source.read c.gather_with.new.source)
    (g.W.Sink.written c.args.sink.now) (g.W.Sink.written c.gather_with.new.output) (lines_fault g.row.A.Denot
    (g.C.Choice.selection c.args.choice.now) c.in-Err.fault _ _ _ _ _ _ _ c.gather_with.new.report.items
    c.in-Err.ensures.gathered).0

pub returns-in-Err-clause-writes : goal.returns-in-Err-clause-writes
returns-in-Err-clause-writes g c =
    (lines_fault g.row.A.Denot (g.C.Choice.selection c.args.choice.now) c.in-Err.fault _ _ _ _ _ _ _
    c.gather_with.new.report.items c.in-Err.ensures.gathered).1

pub returns-in-Ok-write_all_of-clause-writes : goal.returns-in-Ok-write_all_of-clause-writes
returns-in-Ok-write_all_of-clause-writes g c =
    writes_on _ _ _ _ _ _ _ _ _ c.in-Ok.ensures.gathered.1.1.stands.writes
    c.in-Ok-write_all_of.ensures.writes

pub returns-clause-writes : goal.returns-clause-writes
returns-clause-writes g c =
    writes_on _ _ _ _ _ _ _ _ _ c.in-Ok.ensures.gathered.1.1.stands.writes
    c.in-Err-write_all_of.ensures.writes

pub returns-in-Err-push_finished-clause-writes : goal.returns-in-Err-push_finished-clause-writes
returns-in-Err-push_finished-clause-writes g c = c.in-Ok.ensures.gathered.1.1.stands.writes

pub push_finished-requires : goal.push_finished-requires
push_finished-requires g c =
    let found = c.in-Ok.ensures.gathered in
    omega (arith, found.1.0.passed.all, found.1.0.all.audit.number, added_length 0 found.0)
