use Rattle.std.proofs.Common.{◌≡◌, ◌^◌, arith}
use Rattle.std.proofs.lemmas.Result.{err_from_is_err_and}
use Rattle.slink_links.specs.Served.{for_long, more, none, to_a_fault, to_the_end}
use Rattle.slink_links.proofs.Serves.{closes}
use Rattle.slink_links.proofs.serving.serve_link.Goals as goal

pub loop-turn-init : goal.loop-turn-init
loop-turn-init g c = record {
  fits = c.new-session.ensures.fits c.args.feed.now;
  fresh = c.new-session.ensures.is_new;
  taken = none;
}

pub returns-in_err-serve_turn : goal.returns-in_err-serve_turn
returns-in_err-serve_turn g c =
    let e = err_from_is_err_and c.from_residual.result c.from_residual.ensures.1 in
    rw (e.1, e.2) (record {
      first = c.new-session.result;
      fresh = c.loop-turn.invariant.fresh;
      last = _;
      turns = to_a_fault _ c.loop-turn.turn _ _ _ _ (omega (arith, c.loop-turn-test.true)) c.loop-turn.invariant.taken
          c.in_err-serve_turn.ensures.fault;
    })

pub returns-after-loop-turn : goal.returns-after-loop-turn
returns-after-loop-turn g c =
    let all : c.loop-turn.turn ≡ 2 ^ 40 = omega (arith, c.loop-turn-test.false, c.loop-turn.auto.turn-end) in record {
      first = c.new-session.result;
      fresh = c.loop-turn.invariant.fresh;
      last = _;
      turns = for_long tt _ _ (rw all at c.loop-turn.invariant.taken);
    }

pub loop-turn-preserved : goal.loop-turn-preserved
loop-turn-preserved g c = record {
  fits = c.serve_turn.ensures.fits;
  fresh = c.loop-turn.invariant.fresh;
  taken = more _ _ _ _ _ c.loop-turn.invariant.taken (rw c.in-Goes.is at c.in_ok-serve_turn.ensures.ok);
}

pub returns-in-Closed : goal.returns-in-Closed
returns-in-Closed g c =
    let attends = c.in_ok-serve_turn.ensures.ok in record {
      first = c.new-session.result;
      fresh = c.loop-turn.invariant.fresh;
      last = _;
      turns = to_the_end tt c.loop-turn.turn _ _ _ _ (omega (arith, c.loop-turn-test.true)) c.loop-turn.invariant.taken
          (rw (closes attends c.in-Closed.is) at attends);
    }
