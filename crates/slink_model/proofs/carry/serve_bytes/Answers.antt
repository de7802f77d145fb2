use Rattle.std.proofs.Common.{◌∙◌, ap, subst, arith, ◌++◌, take}
use Rattle.std.proofs.lemmas.List.{take_rest}
use Rattle.slink_feed.specs.Serving.{Takes}
use Rattle.slink_model.proofs.Pieces.{serves_all, serves_more}
use Rattle.slink_model.proofs.carry.serve_bytes.Goals as goal

pub loop-start-preserved : goal.loop-start-preserved
loop-start-preserved c = record {
  within = omega (arith, c.take-used.ensures.bound, c.loop-start.invariant.within);
  fits = c.take-used.ensures.fits;
  rest = λ last all more. c.loop-start.invariant.rest last all
      (serves_more c.args.feed.now c.loop-start.session c.take-used.new.self last c.args.bytes.now c.loop-start.start
      c.take-used.result.0 c.loop-start.to_client.items c.add_bytes.new.queue.items all c.take-used.result.1
      (subst (λ piece. Takes c.args.feed.now c.loop-start.session (take c.take-used.result.0 piece)
      c.take-used.new.self c.take-used.result.1) (take_rest c.args.bytes.now c.loop-start.start)
      (record {
        held = c.take-used.ensures.held;
        answers = c.take-used.ensures.answers;
        closed = λ shut. ((c.take-used.ensures.closed shut).1, (c.take-used.ensures.closed shut).2);
      }))
      (c.in_ok-add_bytes.ensures ∙ ap (λ xs. c.loop-start.to_client.items ++ xs) c.bytes.ensures) more);
}

pub returns-clause-serves : goal.returns-clause-serves
returns-clause-serves c = c.loop-start.invariant.rest c.loop-start.session c.loop-start.to_client.items
    (serves_all _ _ c.args.bytes.now c.loop-start.start _ c.loop-start-test.false)
