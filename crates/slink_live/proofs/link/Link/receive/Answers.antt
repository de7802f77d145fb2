use Rattle.std.proofs.Common.{arith, rules, refl}
use Rattle.std.proofs.Common.{length-append}
use Rattle.slink_live.proofs.Receiving.{leads_last, leads_on}
use Rattle.slink_live.proofs.link.Link.receive.Goals as goal
use Rattle.slink_feed.proofs.Deliveries.{piece_length}
use Rattle.slink_feed.proofs.Sendoffs.{reply_short}

pub loop-start-init : goal.loop-start-init
loop-start-init c = record {
  within = omega arith;
  leads = λ last all serves. serves;
  ring = refl;
  fits = c.requires.fits;
  room = omega (arith, c.requires.room);
}

pub take-used-requires : goal.take-used-requires
take-used-requires c = (search rules, rw (← c.self.view_is) at c.loop-start.invariant.fits)

pub queue-requires : goal.queue-requires
queue-requires c =
    let room = rw (← c.self.view_is) at c.loop-start.invariant.room in
    let short = rw (← c.bytes.ensures) at (reply_short c.take-used.result.1) in
    omega (arith, short, room, c.loop-start-test.true)

pub loop-start-smaller : goal.loop-start-smaller
loop-start-smaller c =
    let long = piece_length c.args.bytes.now c.loop-start.start in
    let some = c.take-used.ensures.some (omega (arith, long, c.loop-start-test.true)) in
    omega (arith, some, long, c.take-used.ensures.bound, c.loop-start-test.true)

pub loop-start-preserved : goal.loop-start-preserved
loop-start-preserved c =
    let long = piece_length c.args.bytes.now c.loop-start.start in
    let some = c.take-used.ensures.some (omega (arith, long, c.loop-start-test.true)) in
    let room = rw (← c.self.view_is) at c.loop-start.invariant.room in
    let short = rw (← c.bytes.ensures) at (reply_short c.take-used.result.1) in
    record {
      within = omega (arith, long, c.take-used.ensures.bound, c.loop-start-test.true);
      leads = rw (c.queue.ensures, c.bytes.ensures) (leads_on c.args.feed.now _ _ c.take-used.new.self c.args.bytes.now
          _ _ c.loop-start.start c.take-used.result.0 c.take-used.result.1
          (rw (← c.self.view_is) at c.loop-start.invariant.leads) (record {
            held = c.take-used.ensures.held;
            answers = c.take-used.ensures.answers;
            closed = λ shut. ((c.take-used.ensures.closed shut).1, (c.take-used.ensures.closed shut).2);
          }));
      ring = rw c.queue.ensures (rw (← c.self.view_is) at c.loop-start.invariant.ring);
      fits = rw c.queue.ensures c.take-used.ensures.fits;
      room = rw c.queue.ensures
          (omega (arith, length-append c.self.inside.pending.bytes c.bytes.result.now, short, some, room));
    }

pub returns-clause-serves : goal.returns-clause-serves
returns-clause-serves c =
    leads_last c.args.feed.now c.args.self.now.session c.loop-start.self.session c.args.bytes.now
    c.args.self.now.pending c.loop-start.self.pending c.loop-start.start c.loop-start.invariant.leads
    (omega (arith, c.loop-start-test.false))
