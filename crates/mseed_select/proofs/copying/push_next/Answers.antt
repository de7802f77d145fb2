use Rattle.std.proofs.Common.{◌≡◌, ◌∙◌, List, ℕ, length, take, sym, ap, arith}
use Rattle.mseed_record.specs.View.{View}
use Rattle.mseed_record.specs.Viewing.{view_of}
use Rattle.mseed_stream.specs.Device.{BytesRead}
use Rattle.mseed_stream.proofs.Calls.{reads_none, reads_whole}
use Rattle.mseed_stream.proofs.Gathered.{none_left}
use Rattle.mseed_select.proofs.Copied.{cut_off, held_more, held_on, next_err}
use Rattle.mseed_select.proofs.copying.push_next.Goals as goal

pub pass-requires-clause-ahead : goal.pass-requires-clause-ahead
pass-requires-clause-ahead g c =
    rw c.bytes-size.ensures.value c.in-Some.ensures.ahead

pub returns-in-Some-clause-next : goal.returns-in-Some-clause-next
returns-in-Some-clause-next g c = λ first views before held.
    let view : View = view_of c.in-Some.view in
    let lent : List ℕ = g.R.Source.lent c.args.input.now in
    let is = c.in-Some.ensures.record in
    let same : view.bytes ≡ take (length c.bytes-size.result.now) lent =
    is.1 ∙ ap (λ (xs : List ℕ). take (length xs) lent) (sym c.bytes-size.ensures.value) in
    record {
      view = view;
      handed = c.pass.ensures.handed views view before is.0 same;
      called = omega (arith, ap (λ (h : BytesRead). h.calls) c.pass.ensures.reported);
      answered = c.in_ok-answer.ensures.answer;
      held = held_more _ _ _ _ _ _ _ _ _ view before.records (rw c.offset-offset.ensures at c.in_ok-answer.ensures.ok)
          held;
    }

pub returns-in_err-answer-clause-next : goal.returns-in_err-answer-clause-next
returns-in_err-answer-clause-next g c = λ first views before held.
    next_err _ _ c.from_residual.result views _ _ _ _ _ _ _ _ c.from_residual.ensures.1 before.records held

pub ask_next-requires-clause-written : goal.ask_next-requires-clause-written
ask_next-requires-clause-written g c = none_left c.write_beyond.new.text.items c.in-Ok.ensures.most

pub returns-in-Ok-clause-next : goal.returns-in-Ok-clause-next
returns-in-Ok-clause-next g c = λ first views before held.
    c.ask_next.ensures.next first _ views before (held_on _ _ _ _ _ _ _ _ held c.in-Ok.ensures.ok c.in-Ok.ensures.fine)

pub returns-in-Err-clause-next : goal.returns-in-Err-clause-next
returns-in-Err-clause-next g c = λ first views before held.
    cut_off _ _ _ _ _ _ _ _ _ views before.records held c.in-Err.ensures.err

pub returns-in-Some-clause-reads : goal.returns-in-Some-clause-reads
returns-in-Some-clause-reads g c = λ goes_on.
    reads_whole (g.R.Source.read c.args.input.now) (g.R.Source.read c.pass.new.source) _ _ _ _ _
    c.pass.ensures.reported c.pass.ensures.known c.pass.ensures.beside (c.requires.going_on goes_on)

pub returns-in_err-answer-clause-reads : goal.returns-in_err-answer-clause-reads
returns-in_err-answer-clause-reads g c = λ goes_on.
    reads_none (g.R.Source.read c.args.input.now) _ _ (c.requires.going_on goes_on)

pub returns-in-Err-clause-reads : goal.returns-in-Err-clause-reads
returns-in-Err-clause-reads g c = λ goes_on.
    reads_none (g.R.Source.read c.args.input.now) _ _ (c.requires.going_on goes_on)
