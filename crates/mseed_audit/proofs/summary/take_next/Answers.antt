use Rattle.std.proofs.Common.{◌≡◌, ◌++◌, ◌∷◌, [], Err, refl, rules, ap, arith}
use Rattle.mseed_record.specs.declared.view.RecordView.{RecordView}
use Rattle.mseed_record.specs.View.{View}
use Rattle.mseed_record.specs.Viewing.{view_of}
use Rattle.mseed_stream.specs.Device.{BytesRead}
use Rattle.mseed_stream.specs.Cutting.{IfEnds}
use Rattle.mseed_stream.specs.declared.fault.StreamFault.{StreamFault}
use Rattle.mseed_stream.specs.declared.fault.StreamFault.TheVariants.{Memory}
use Rattle.mseed_stream.proofs.Calls.{reads_next, reads_none, reads_whole}
use Rattle.mseed_audit.proofs.Reporting.{ended_with, next_none, read_on}
use Rattle.mseed_audit.proofs.summary.take_next.Goals as goal

pub pass-requires-clause-ahead : goal.pass-requires-clause-ahead
pass-requires-clause-ahead g c =
    rw c.bytes-size.ensures.value c.in-Some.ensures.ahead

pub returns-in-Ok-None-clause-next : goal.returns-in-Ok-None-clause-next
returns-in-Ok-None-clause-next g c = λ first now before.
    ended_with before (rw c.in-Ok-None.field-0-is at c.in-Ok-None.ensures.all before.views before.handed)

pub returns-in-Err-Memory-clause-next : goal.returns-in-Err-Memory-clause-next
returns-in-Err-Memory-clause-next g c = λ first now before.
    let more = c.next.ensures.answer.more in
    (read_on before (g.R.Source.read c.next.new.source) more.0 more.1, before.judged.report)

pub returns-in_ok-judge-in-Some-clause-next : goal.returns-in_ok-judge-in-Some-clause-next
returns-in_ok-judge-in-Some-clause-next g c = λ first now before.
    let view : View = view_of c.in-Some.view in
    let shown = c.in-Some.ensures.record in
    let at = rw (← c.offset-offset.ensures) at before.handed.records in record {
      all = record {
        views = before.views ++ view ∷ [];
        handed = c.pass.ensures.handed before.views view before.handed shown.0
            (rw c.bytes-size.ensures.value shown.1);
        judged = c.in_ok-judge-in-Some.ensures first now _ before.views at before.judged;
      };
      view = view;
      more = refl;
      called = omega (arith, ap (λ (h : BytesRead). h.calls) c.pass.ensures.reported);
    }

pub returns-in_err-judge-in-Some-clause-next : goal.returns-in_err-judge-in-Some-clause-next
returns-in_err-judge-in-Some-clause-next g c = λ first now before.
    let at = rw (← c.offset-offset.ensures) at before.handed.records in
    next_none (g.C.Choice.selection c.args.choice.now) c.from_residual.result _ before.views _ _ _ _ _ _
    (g.P.Report.stands first c.judge.new.report now) c.from_residual.ensures.1 before.handed.records
    (c.in_err-judge-in-Some.ensures first now _ before.views at before.judged)

pub returns-in_ok-judge-in-Some-clause-reads : goal.returns-in_ok-judge-in-Some-clause-reads
returns-in_ok-judge-in-Some-clause-reads g c = λ goes_on.
    reads_whole (g.R.Source.read c.args.source.now) (g.R.Source.read c.pass.new.source) _ _ _ _ _
    c.pass.ensures.reported c.pass.ensures.known c.pass.ensures.beside (c.requires.along.going_on goes_on)

pub returns-in_err-judge-in-Some-clause-reads : goal.returns-in_err-judge-in-Some-clause-reads
returns-in_err-judge-in-Some-clause-reads g c = λ goes_on.
    reads_none (g.R.Source.read c.args.source.now) _ _ (c.requires.along.going_on goes_on)

pub returns-in_ok-judge-in-Ok-Some-clause-next : goal.returns-in_ok-judge-in-Ok-Some-clause-next
returns-in_ok-judge-in-Ok-Some-clause-next g c = λ first now before.
    let view : View = view_of c.in-Ok-Some.view in
    let handed = rw (c.in-Ok-Some.is, c.in-Ok-Some.field-0-is) at c.next.follows.holds-at-none.4 before.views
    before.handed in
    let at = rw (← c.offset-offset.ensures) at before.handed.records in record {
      all = record {
        views = before.views ++ view ∷ [];
        handed = handed;
        judged = c.in_ok-judge-in-Ok-Some.ensures first now _ before.views at before.judged;
      };
      view = view;
      more = refl;
      called = rw c.in-Ok-Some.field-0-is at c.in-Ok-Some.ensures.called;
    }

pub returns-in_err-judge-in-Ok-Some-clause-next : goal.returns-in_err-judge-in-Ok-Some-clause-next
returns-in_err-judge-in-Ok-Some-clause-next g c = λ first now before.
    let at = rw (← c.offset-offset.ensures) at before.handed.records in
    let more = c.next.ensures.answer.more in
    next_none (g.C.Choice.selection c.args.choice.now) c.from_residual-in_err-judge-in-Ok-Some.result _ before.views _
    _ _ _ _ _ (g.P.Report.stands first c.judge-in-Ok-Some.new.report now)
    c.from_residual-in_err-judge-in-Ok-Some.ensures.1
    (read_on before (g.R.Source.read c.next.new.source) more.0 more.1)
    (c.in_err-judge-in-Ok-Some.ensures first now _ before.views at before.judged)

-- a fault other than refused memory ends the records
ends : (e : StreamFault) (P : Type 0) → (e ≡ Memory → ⊥) → IfEnds {X = RecordView} (Err e) P → P
ends Memory P other end = absurd (other refl)
ends e P other end = end

pub returns-in_ok-judge-in-Ok-Some-clause-reads : goal.returns-in_ok-judge-in-Ok-Some-clause-reads
returns-in_ok-judge-in-Ok-Some-clause-reads g c =
    reads_next c.next.result c.args.cutter.now _ _ _ _ _ _ c.next.ensures.answer c.next.ensures.beside

pub returns-in-Ok-None-clause-reads : goal.returns-in-Ok-None-clause-reads
returns-in-Ok-None-clause-reads g c = reads_next _ _ _ _ _ _ _ _ c.next.ensures.answer c.next.ensures.beside

pub returns-in-Err-Memory-clause-reads : goal.returns-in-Err-Memory-clause-reads
returns-in-Err-Memory-clause-reads g c = reads_next _ _ _ _ _ _ _ _ c.next.ensures.answer c.next.ensures.beside

pub returns-in-Err-clause-reads : goal.returns-in-Err-clause-reads
returns-in-Err-clause-reads g c = reads_next _ _ _ _ _ _ _ _ c.next.ensures.answer c.next.ensures.beside

pub returns-in-Err-clause-next : goal.returns-in-Err-clause-next
returns-in-Err-clause-next g c = λ first now before.
    let other : c.in-Err.fault ≡ Memory → ⊥ = search rules in
    ended_with before (ends c.in-Err.fault _ other (c.in-Err.ensures.all before.views before.handed))
