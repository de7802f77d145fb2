use Rattle.std.proofs.Common.{◌++◌, ◌∷◌, []}
use Rattle.mseed_record.specs.View.{View}
use Rattle.mseed_record.specs.Viewing.{view_of}
use Rattle.mseed_stream.specs.Walk.{HasHandedOut}
use Rattle.mseed_select.proofs.Copied.{cut_short, held_more, next_err, stay}
use Rattle.mseed_select.proofs.copying.ask_next.Goals as goal

pub returns-in_ok-answer-in-Ok-Some-clause-next : goal.returns-in_ok-answer-in-Ok-Some-clause-next
returns-in_ok-answer-in-Ok-Some-clause-next g c = λ first now views before held.
    let view : View = view_of c.in-Ok-Some.view in
    let called = rw c.in-Ok-Some.field-0-is at c.in-Ok-Some.ensures.called in
    let handed : HasHandedOut (g.R.Source.read c.next.new.source) c.next.follows.lender-at-none (views ++ view ∷ []) =
    rw (c.in-Ok-Some.is, c.in-Ok-Some.field-0-is) at c.next.follows.holds-at-none.4 views before in
    record {
      view = view;
      handed = handed;
      called = called;
      answered = c.in_ok-answer-in-Ok-Some.ensures.answer;
      held = held_more _ _ _ _ _ _ _ _ _ view before.records
          (rw c.offset-offset.ensures at c.in_ok-answer-in-Ok-Some.ensures.ok) held;
    }

pub returns-in_err-answer-in-Ok-Some-clause-next : goal.returns-in_err-answer-in-Ok-Some-clause-next
returns-in_err-answer-in-Ok-Some-clause-next g c = λ first now views before held.
    let more = c.next.ensures.answer.more in
    next_err _ _ c.from_residual.result views _ _ (g.R.Source.read c.next.new.source) _ _ _ _ _
    c.from_residual.ensures.1
    (stay _ (g.R.Source.read c.next.new.source) c.args.cutter.now views more.0 before more.1) held

pub returns-in-Err-Memory-clause-next : goal.returns-in-Err-Memory-clause-next
returns-in-Err-Memory-clause-next g c = λ first now views before held.
    let more = c.next.ensures.answer.more in
    cut_short _ _ (g.R.Source.read c.next.new.source) _ _ _ _ _
    (stay _ (g.R.Source.read c.next.new.source) c.args.cutter.now views more.0 before more.1) held
