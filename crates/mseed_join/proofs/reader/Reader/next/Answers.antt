use Rattle.std.proofs.Common.{◌∙◌, Bool, arith, subst, sym}
use Rattle.mseed_join.specs.private.LineReading.{IsLineAhead}
use Rattle.mseed_join.specs.private.Taking.{IsReportedMore}
use Rattle.mseed_join.proofs.Along.{bad_next, fails, lacking_at, line_taken, long_at, looked, looked_few, over_at}
use Rattle.mseed_join.proofs.Along.{stops, unended_at, whole_line}
use Rattle.mseed_join.proofs.reader.Reader.next.Goals.{in-Line+in-Err-Bad, in-TooLong, in-Unended}
use Rattle.mseed_join.proofs.reader.Reader.next.Goals.{in-Nothing+else-can_end}
use Rattle.mseed_join.proofs.reader.Reader.next.Goals as goal

pub look-requires : goal.look-requires
look-requires g c = record { along = c.requires.2.by; goes_on = c.requires.2.goes_on }

pub overflow_add-number : goal.overflow_add-number
overflow_add-number g c =
    let l = looked c.look.new.self c.requires.2 c.look.ensures.more in
    omega (arith, c.lines-number.ensures.value, (looked_few l c.lines-number.ensures.few).1)

pub take_line-requires-clause-parts : goal.take_line-requires-clause-parts
take_line-requires-clause-parts g c =
    let l = looked c.look.new.self c.requires.2 c.look.ensures.more in
    omega (arith, (looked_few l c.lines-number.ensures.few).0)

pub returns-in-Err-clause-step : goal.returns-in-Err-clause-step
returns-in-Err-clause-step g c past s along =
    let l = looked c.look.new.self along c.look.ensures.more in (
      stops l,
      (c.in-Err.ensures.fault, fails l c.in-Err.ensures.open),
    )

pub returns-in-Ok-take_line-clause-step : goal.returns-in-Ok-take_line-clause-step
returns-in-Ok-take_line-clause-step g c past s along =
    let l = looked c.look.new.self along c.look.ensures.more in
    let step = (c.in-Ok-take_line.ensures l.by.passed s l.read).0 in
    let line : IsLineAhead c.look.new.self.size c.look.new.self.held = rw c.in-Line.is at c.in-Ok.ensures.ahead in (
      step.0,
      (
        line_taken l c.line.result.now line c.line.ensures c.pass.ensures.held c.pass.ensures.lines
            c.pass.ensures.counts (rw c.in-Line.is at c.in-Ok.ensures.goes_on) step.1,
        subst (λ (p : Bool). IsReportedMore p s step.0 c.in-Ok-take_line.reported) l.past_is step.1.reported,
      ),
    )

pub returns-in-Err-Memory-clause-step : goal.returns-in-Err-Memory-clause-step
returns-in-Err-Memory-clause-step g c past s along = (stops (looked c.look.new.self along c.look.ensures.more), tt)

pub returns-then-can_end-clause-step : goal.returns-then-can_end-clause-step
returns-then-can_end-clause-step g c past s along =
    over_at (looked c.look.new.self along c.look.ensures.more) (rw c.in-Nothing.is at c.in-Ok.ensures.ahead)
    (sym c.can_end.ensures ∙ c.if-can_end.true)

pub returns-clause-step : goal.returns-clause-step
returns-clause-step g c past s along =
    let l = looked c.look.new.self along c.look.ensures.more in (
      stops l,
      bad_next l _ _ _ c.lines-number.ensures.value c.offset-offset.ensures (elim c.match-ahead.branch [
        | in-Line+in-Err-Bad w ↦
            let refused = rw w.in-Err-Bad.field-0-is at w.in-Err-Bad.ensures l.by.passed s l.read in
            let line : IsLineAhead c.look.new.self.size c.look.new.self.held =
            rw w.in-Line.is at c.in-Ok.ensures.ahead in
            rw w.flaw-is (whole_line l w.line.result.now _ line w.line.ensures refused.0 refused.1)
        | in-TooLong w ↦ rw w.flaw-is (long_at l (rw w.in-TooLong.is at c.in-Ok.ensures.ahead))
        | in-Unended w ↦ rw w.flaw-is (unended_at l (rw w.in-Unended.is at c.in-Ok.ensures.ahead))
        | in-Nothing+else-can_end w ↦ rw w.flaw-is (lacking_at l (rw w.in-Nothing.is at c.in-Ok.ensures.ahead)
            (sym w.can_end.ensures ∙ w.if-can_end.false))
      ]),
    )

pub returns-in-Ok-take_line-clause-few : goal.returns-in-Ok-take_line-clause-few
returns-in-Ok-take_line-clause-few g c =
    let l = looked c.look.new.self c.requires.2 c.look.ensures.more in
    omega (arith, c.look.ensures.more.lines, (looked_few l c.lines-number.ensures.few).1)

pub pass-requires : goal.pass-requires
pass-requires g c = rw c.in-Line.is at c.in-Ok.ensures.ahead
