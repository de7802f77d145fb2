use Rattle.std.proofs.Common.{◌∙◌}
use Rattle.std.proofs.lemmas.Result.{MatchResult-weaker}
use Rattle.mseed_record.specs.Viewing.{view_of}
use Rattle.mseed_steim.specs.declared.form.Form.TheVariants.{Integers, Frames}
use Rattle.mseed_steim.specs.Reading.{AnswersRecord, HoldsIn}
use Rattle.mseed_steim.specs.Samples.{AreEnds}
use Rattle.mseed_steim.proofs.Constants.{constants_end, one_ends}
use Rattle.mseed_steim.proofs.Laws.{payload_answers}
use Rattle.mseed_steim.proofs.ends.find_ends.Goals as goal

pub returns-in-Integers : goal.returns-in-Integers
returns-in-Integers c =
    let answer : AnswersRecord (view_of c.args.view.now) AreEnds c.check_integers.result =
    payload_answers (view_of c.args.view.now) (Integers c.in-Integers.width) c.in_ok-form.payload.now _ _ AreEnds
    AreEnds c.check_integers.result c.requires (rw c.in-Integers.is at c.in_ok-form.ensures.held)
    (c.from-samples.ensures ∙ c.samples.ensures) c.payload_order.ensures (λ ends s are. are)
    c.check_integers.ensures in
    record {
      ends = MatchResult-weaker c.check_integers.result answer
          (one_ends (view_of c.args.view.now)) (λ fault h. tt);
      fault = MatchResult-weaker c.check_integers.result answer (λ ends h. tt) (λ fault h. h);
    }

pub returns-in-Some-clause-ends : goal.returns-in-Some-clause-ends
returns-in-Some-clause-ends c =
    let held : HoldsIn (view_of c.args.view.now) (Frames c.in-Frames.field-0) c.in_ok-form.payload.now =
    rw c.in-Frames.is at c.in_ok-form.ensures.held in
    constants_end (view_of c.args.view.now) c.in-Frames.field-0 c.in_ok-form.payload.now c.in-Some.ends held
    c.in-Some.ensures.first c.in-Some.ensures.last
