use Rattle.std.proofs.Common.{◌++◌, ◌∷◌, [], ap, arith, rules}
use Rattle.std.proofs.lemmas.Result.{err_from_is_err_and}
use Rattle.mseed_record.specs.View.{View}
use Rattle.mseed_record.specs.Viewing.{view_of}
use Rattle.mseed_record.specs.declared.view.RecordView.{RecordView}
use Rattle.mseed_stream.specs.Device.{BytesRead}
use Rattle.mseed_stream.specs.Walk.{HasHandedOut}
use Rattle.mseed_stream.specs.declared.fault.StreamFault.{StreamFault}
use Rattle.mseed_stream.proofs.Calls.{reads_next, reads_whole}
use Rattle.mseed_feed.proofs.Fills.{broken_off, pushed_next}
use Rattle.mseed_feed.proofs.filling.push_next.Goals as goal

pub returns-in-Some-clause-pushed : goal.returns-in-Some-clause-pushed
returns-in-Some-clause-pushed g c = λ serving views can filled number.
    let view : View = view_of c.in-Some.view in
    let is = c.in-Some.ensures.record in
    pushed_next serving views view c.bytes.result.now c.args.number c.answer.result c.take_record-taken.result
    c.args.feed.now c.take_record-taken.new.self (g.R.Source.read c.args.input.now)
    (g.R.Source.read c.pass.new.source) c.pass.new.self can c.bytes.ensures.value
    (c.pass.ensures.handed views view filled.handed is.0 (rw c.bytes-size.ensures.value is.1))
    (omega (arith, ap (λ (h : BytesRead). h.calls) c.pass.ensures.reported)) filled.each filled.feed_is number
    c.take_record-taken.ensures.of c.take_record-taken.ensures.pushed c.take_record-taken.ensures.foreign
    c.take_record-taken.ensures.fault c.answer.ensures.ok c.answer.ensures.err

pub returns-in-Some-2-clause-pushed : goal.returns-in-Some-2-clause-pushed
returns-in-Some-2-clause-pushed g c = λ serving views can filled number.
    let view : View = view_of c.in-Some-2.view in
    let read : BytesRead = g.R.Source.read c.next.new.source in
    let some = c.in-Some-2.is in
    let called = rw some at c.in_ok-view.ensures.called in
    let handed : HasHandedOut read c.next.follows.lender-at-none (views ++ view ∷ []) =
    rw (c.in_ok-view.was, some) at c.next.follows.holds-at-none.4 views filled.handed in
    pushed_next serving views view c.bytes-in-Some-2.result.now c.args.number c.answer-in-Some-2.result
    c.take_record.result c.args.feed.now c.take_record.new.self (g.R.Source.read c.args.input.now) read
    c.next.follows.lender-at-none can c.bytes-in-Some-2.ensures.value handed called filled.each filled.feed_is
    number c.take_record.ensures.of c.take_record.ensures.pushed c.take_record.ensures.foreign
    c.take_record.ensures.fault c.answer-in-Some-2.ensures.ok c.answer-in-Some-2.ensures.err

pub returns-in-None-clause-pushed : goal.returns-in-None-clause-pushed
returns-in-None-clause-pushed g c = λ serving views can filled number.
    let all = rw c.in-None.is at c.in_ok-view.ensures.all views filled.handed in
    record { views = views; all = all; each = filled.each; feed_is = filled.feed_is }

pub returns-in_err-view-clause-pushed : goal.returns-in_err-view-clause-pushed
returns-in_err-view-clause-pushed g c = λ serving views can filled number.
    let read : BytesRead = g.R.Source.read c.next.new.source in
    let fault : StreamFault = c.in_err-view.field-0.0 in
    let failed = c.in_err-view.ensures.answer.failed filled.handed.goes_on in
    let e = err_from_is_err_and c.from_residual.result c.from_residual.ensures.1 in
    rw (e.1, e.2) (broken_off RecordView serving fault read views filled.each
    (c.in_err-view.ensures.all views filled.handed)
    (omega (arith, failed, filled.handed.fine)))

pub pass-requires-clause-ahead : goal.pass-requires-clause-ahead
pass-requires-clause-ahead g c =
    rw c.bytes-size.ensures.value c.in-Some.ensures.ahead

pub take_record-requires : goal.take_record-requires
take_record-requires g c = (search rules, c.requires.room)

pub take_record-taken-requires : goal.take_record-taken-requires
take_record-taken-requires g c = (search rules, c.requires.room)

pub returns-in-Some-clause-reads : goal.returns-in-Some-clause-reads
returns-in-Some-clause-reads g c = λ goes_on.
    reads_whole (g.R.Source.read c.args.input.now) (g.R.Source.read c.pass.new.source) _ _ _ _ _
    c.pass.ensures.reported c.pass.ensures.known c.pass.ensures.beside (c.requires.along.going_on goes_on)

pub returns-in-Some-2-clause-reads : goal.returns-in-Some-2-clause-reads
returns-in-Some-2-clause-reads g c = λ goes_on.
    reads_next c.next.result c.args.cutter.now _ _ _ _ _ _ c.next.ensures.answer c.next.ensures.beside goes_on

pub returns-in-None-clause-reads : goal.returns-in-None-clause-reads
returns-in-None-clause-reads g c = λ goes_on.
    reads_next c.next.result c.args.cutter.now _ _ _ _ _ _ c.next.ensures.answer c.next.ensures.beside goes_on

pub returns-in_err-view-clause-reads : goal.returns-in_err-view-clause-reads
returns-in_err-view-clause-reads g c = λ goes_on.
    reads_next c.next.result c.args.cutter.now _ _ _ _ _ _ c.next.ensures.answer c.next.ensures.beside goes_on
