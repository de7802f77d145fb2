use Rattle.std.proofs.Common.{arith}
use Rattle.std.proofs.Common.{◌≡◌, ◌∙◌, List, ℕ, ℤ}
use Rattle.mseed_time.specs.declared.order.Order.{Order}
use Rattle.mseed_record.specs.View.{View}
use Rattle.mseed_record.specs.Viewing.{view_of}
use Rattle.mseed_steim.specs.declared.form.Form.{Form}
use Rattle.mseed_steim.specs.declared.form.Form.TheVariants.{Integers, Frames}
use Rattle.mseed_steim.specs.Frames.{AreOctets}
use Rattle.mseed_steim.specs.Nearness.{AreNear, IsSurelyNear}
use Rattle.mseed_steim.specs.Reading.{AnswersRecord, HoldsIn, IsWhole, count_of}
use Rattle.mseed_steim.specs.Samples.{AreEnds}
use Rattle.mseed_steim.proofs.Constants.{constants_end, frameless, one_ends, whole_fault}
use Rattle.mseed_steim.proofs.Laws.{payload_answers}
use Rattle.mseed_steim.proofs.Nearness.{near_whole, shown_near}
use Rattle.mseed_steim.proofs.ends.near_ends.Goals as goal

-- the samples of a record are near one another, where its payload shows it
near : (v : View) (form : Form) (o : Order) (p : List ℕ) (n : ℕ) → HoldsIn v form p → n ≡ count_of v
    → o ≡ v.payload_order → AreOctets p → IsSurelyNear form o p n → (s : List ℤ) → IsWhole v s → AreNear s
near v form o p n held count order octets surely = grind (arith, near_whole, shown_near)

pub unreachable-requires : goal.unreachable-requires
unreachable-requires c =
    let answer : AnswersRecord (view_of c.args.view.now) AreEnds c.check_integers.result =
    payload_answers (view_of c.args.view.now) (Integers c.in-Integers.width) c.in-Ok.payload.now _ _ AreEnds AreEnds
    c.check_integers.result c.requires.1.0.some (rw c.in-Integers.is at c.in-Ok.ensures.held)
    (c.from-samples.ensures ∙ c.samples.ensures) c.payload_order-order.ensures (λ ends s are. are)
    c.check_integers.ensures in
    whole_fault (view_of c.args.view.now) c.requires.0 c.in-Err.field-0 c.requires.1 (rw c.in-Err.is at answer)

pub unreachable-requires-in-None : goal.unreachable-requires-in-None
unreachable-requires-in-None c =
    let held : HoldsIn (view_of c.args.view.now) (Frames c.in-Frames.field-0) c.in-Ok.payload.now =
    rw c.in-Frames.is at c.in-Ok.ensures.held in
    whole_fault (view_of c.args.view.now) c.requires.0 _ c.requires.1
    (frameless (view_of c.args.view.now) c.in-Frames.field-0 c.in-Ok.payload.now c.requires.1.0.some held
    c.in-None.ensures.none)

pub returns-in-Ok-check_integers-clause-ends : goal.returns-in-Ok-check_integers-clause-ends
returns-in-Ok-check_integers-clause-ends c s whole =
    let answer : AnswersRecord (view_of c.args.view.now) AreEnds c.check_integers.result =
    payload_answers (view_of c.args.view.now) (Integers c.in-Integers.width) c.in-Ok.payload.now _ _ AreEnds AreEnds
    c.check_integers.result c.requires.1.0.some (rw c.in-Integers.is at c.in-Ok.ensures.held)
    (c.from-samples.ensures ∙ c.samples.ensures) c.payload_order-order.ensures (λ ends s are. are)
    c.check_integers.ensures in (
      one_ends (view_of c.args.view.now) c.in-Ok-check_integers.ends (rw c.in-Ok-check_integers.is at answer) s whole,
      near (view_of c.args.view.now) c.in-Ok.form c.payload_order-order.result c.in-Ok.payload.now
          c.from-samples.result c.in-Ok.ensures.held (c.from-samples.ensures ∙ c.samples.ensures)
          c.payload_order-order.ensures c.shows_near.ensures.octets
          (c.shows_near.ensures.shown.0 c.if-not-shows_near.false) s whole,
    )

pub returns-in-Some-clause-ends : goal.returns-in-Some-clause-ends
returns-in-Some-clause-ends c =
    let held : HoldsIn (view_of c.args.view.now) (Frames c.in-Frames.field-0) c.in-Ok.payload.now =
    rw c.in-Frames.is at c.in-Ok.ensures.held in
    λ s whole. (
      constants_end (view_of c.args.view.now) c.in-Frames.field-0 c.in-Ok.payload.now c.in-Some.ends held
          c.in-Some.ensures.first c.in-Some.ensures.last s whole,
      near (view_of c.args.view.now) c.in-Ok.form c.payload_order-order.result c.in-Ok.payload.now
          c.from-samples.result c.in-Ok.ensures.held (c.from-samples.ensures ∙ c.samples.ensures)
          c.payload_order-order.ensures c.shows_near.ensures.octets
          (c.shows_near.ensures.shown.0 c.if-not-shows_near.false) s whole,
    )
