use Rattle.std.proofs.Common.{◌∙◌, arith, refl, take_all}
use Rattle.std.proofs.lemmas.Result.{err_from_is_err_and}
use Rattle.slink_feed.proofs.Deliveries.{piece_length}
use Rattle.slink_feed.proofs.Sendoffs.{nothing_replied, one_replied, passed_on, unreplied}
use Rattle.slink_feed.proofs.serving.reply_to_all.Goals as goal

pub loop-start-init : goal.loop-start-init
loop-start-init g c = record {
  so_far = nothing_replied c.args.feed.now _ c.args.bytes.now c.args.before;
  fits = c.requires.fits;
  stands = c.requires.stands;
  beside = refl;
}

pub loop-start-preserved : goal.loop-start-preserved
loop-start-preserved g c =
    let long = piece_length c.args.bytes.now c.loop-start.start in
    let taken = c.take-used.ensures in
    record {
      so_far = one_replied _ _ _ _ _ _ _ _ c.take-used.result.0 c.take-used.result.1 c.loop-start.invariant.so_far
          (record {
            held = taken.held;
            answers = taken.answers;
            closed = λ shut. ((taken.closed shut).1, (taken.closed shut).2);
          })
          c.in_ok-written.written (taken.some (omega (arith, long, c.loop-start-test.true)))
          (omega (arith, long, taken.bound)) (rw c.bytes.ensures at c.in_ok-written.ensures.ok);
      fits = taken.fits;
      stands = taken.stands;
      beside = c.write_after.ensures.beside ∙ c.loop-start.invariant.beside;
    }

pub returns-in_err-written-clause-fault : goal.returns-in_err-written-clause-fault
returns-in_err-written-clause-fault g c =
    let taken = c.take-used.ensures in
    passed_on _ _ _ (err_from_is_err_and c.from_residual.result c.from_residual.ensures.1)
    (unreplied _ _ _ _ _ _ _ _ c.take-used.result.0 c.take-used.result.1 c.loop-start.invariant.so_far
    (record {
      held = taken.held;
      answers = taken.answers;
      closed = λ shut. ((taken.closed shut).1, (taken.closed shut).2);
    })
    c.in_err-written.field-0.0 (rw c.bytes.ensures at c.in_err-written.ensures.fault))

pub loop-start-smaller : goal.loop-start-smaller
loop-start-smaller g c =
    let long = piece_length c.args.bytes.now c.loop-start.start in
    let some = c.take-used.ensures.some (omega (arith, long, c.loop-start-test.true)) in
    omega (arith, some, long, c.take-used.ensures.bound, c.loop-start-test.true)

pub write_after-requires-clause-room : goal.write_after-requires-clause-room
write_after-requires-clause-room g c =
    let so_far = c.loop-start.invariant.so_far in
    omega (arith, so_far.few, so_far.within, c.requires.few, c.requires.room)

pub returns-in_err-written-clause-beside : goal.returns-in_err-written-clause-beside
returns-in_err-written-clause-beside g c = c.write_after.ensures.beside ∙ c.loop-start.invariant.beside

pub returns-clause-ok : goal.returns-clause-ok
returns-clause-ok g c = record {
  serves = rw (take_all c.loop-start.start c.args.bytes.now (omega (arith, c.loop-start-test.false)))
      at c.loop-start.invariant.so_far.serves;
  failures = c.loop-start.invariant.so_far.failures;
}
