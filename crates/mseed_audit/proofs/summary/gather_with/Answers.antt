use Rattle.std.proofs.Common.{[], ap, refl, sym, append-nil, arith}
use Rattle.std.proofs.KnownBytes.{Consumes-nil}
use Rattle.mseed_stream.specs.Device.{BytesRead}
use Rattle.mseed_stream.specs.Walk.{HasHandedOut}
use Rattle.mseed_stream.proofs.Calls.{reads_on}
use Rattle.mseed_audit.specs.declared.passed.Passed.{Passed}
use Rattle.mseed_audit.specs.Reported.{none}
use Rattle.mseed_audit.proofs.Reporting.{judged_on, report_to}
use Rattle.mseed_audit.proofs.Views.{added_length}
use Rattle.mseed_audit.proofs.summary.gather_with.Goals as goal

pub records-init : goal.records-init
records-init g c =
    let read : BytesRead = g.R.Source.read c.args.source.now in
    let handed : HasHandedOut read c.new-cutter.result [] = rw c.requires.read c.new-cutter.ensures.handed in
    let left = ap (λ (p : Passed). p.left) c.none-passed.ensures in
    let without_time = ap (λ (p : Passed). p.without_time) c.none-passed.ensures in
    record {
      judged = record {
        views = [];
        handed = handed;
        judged = record {
          audit = c.new-audit.ensures.of_none;
          passed = record { all = omega (arith, left, without_time); without_time = without_time };
          report = record { reported = []; are_reported = none []; stands = c.requires.report };
        };
      };
      more = ([], sym (append-nil read.bytes), Consumes-nil _);
      beside = refl;
    }

pub records-preserved : goal.records-preserved
records-preserved g c =
    let next = rw c.in-Ok-Taken.field-0-is at c.in-Ok-Taken.ensures.next c.args.output.now c.records.output
    c.records.invariant.judged in
    let reads = reads_on (g.R.Source.read c.args.source.now) (g.R.Source.read c.records.source)
    (g.R.Source.read c.take_next.new.source) _ _ _ _ _ _ c.records.invariant.more c.records.invariant.beside
    (c.in-Ok-Taken.ensures.reads c.records.invariant.judged.handed.goes_on) in
    record {
      judged = judged_on next.all (c.in-Ok.ensures.reported c.args.output.now);
      more = reads.more;
      beside = reads.beside;
    }

pub records-smaller : goal.records-smaller
records-smaller g c =
    let next = rw c.in-Ok-Taken.field-0-is at c.in-Ok-Taken.ensures.next c.args.output.now c.records.output
    c.records.invariant.judged in
    let along = c.records.invariant.judged.handed.along in
    omega (arith, next.called, along.read.reads, along.read.few_reads)

pub returns-in-Ok-Ended-clause-gathered : goal.returns-in-Ok-Ended-clause-gathered
returns-in-Ok-Ended-clause-gathered g c =
    let next = rw c.in-Ok-Ended.field-0-is at c.in-Ok-Ended.ensures.next c.args.output.now c.records.output
    c.records.invariant.judged in
    (c.records.invariant.judged.views, rw (← c.offset-bytes.ensures) at next)

pub returns-in-Ok-Ended-clause-reads : goal.returns-in-Ok-Ended-clause-reads
returns-in-Ok-Ended-clause-reads g c = let inv = c.records.invariant in
    reads_on _ _ _ _ _ _ _ _ _ inv.more inv.beside (c.in-Ok-Ended.ensures.reads inv.judged.handed.goes_on)

pub returns-in-Err-clause-gathered : goal.returns-in-Err-clause-gathered
returns-in-Err-clause-gathered g c =
    let before = c.records.invariant.judged in
    let stopped = c.in-Err.ensures.next c.args.output.now c.records.output before in
    (c.records.cutter.offset, (before.views, stopped))

pub returns-in-Err-clause-reads : goal.returns-in-Err-clause-reads
returns-in-Err-clause-reads g c = let inv = c.records.invariant in
    reads_on _ _ _ _ _ _ _ _ _ inv.more inv.beside (c.in-Err.ensures.reads inv.judged.handed.goes_on)

pub returns-in-Err-write-clause-gathered : goal.returns-in-Err-write-clause-gathered
returns-in-Err-write-clause-gathered g c =
    let next = rw c.in-Ok-Taken.field-0-is at c.in-Ok-Taken.ensures.next c.args.output.now c.records.output
    c.records.invariant.judged in
    report_to next.all (c.in-Err-write.ensures.reported c.args.output.now)

pub returns-in-Err-write-clause-reads : goal.returns-in-Err-write-clause-reads
returns-in-Err-write-clause-reads g c = let inv = c.records.invariant in
    reads_on _ _ _ _ _ _ _ _ _ inv.more inv.beside (c.in-Ok-Taken.ensures.reads inv.judged.handed.goes_on)

pub take_next-requires-clause-few : goal.take_next-requires-clause-few
take_next-requires-clause-few g c =
    let before = c.records.invariant.judged in
    omega (arith, before.judged.audit.number, added_length 0 before.views, before.handed.called)

pub take_next-requires-clause-passed : goal.take_next-requires-clause-passed
take_next-requires-clause-passed g c =
    let before = c.records.invariant.judged in
    omega (arith, before.judged.passed.all, before.judged.audit.number, added_length 0 before.views)
