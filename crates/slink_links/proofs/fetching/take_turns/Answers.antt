use Rattle.std.proofs.Common.{◌≡◌, ◌∙◌, ◌+◌, ◌^◌, ℕ, None, Some, arith, sym}
use Rattle.slink_links.specs.Fetched.{for_long, more, none, to_the_end}
use Rattle.slink_links.proofs.Fetches.{turned, turned_both, turned_none, turned_out, turned_reading}
use Rattle.slink_feed.proofs.Reporting.{noted_both, noted_none}
use Rattle.slink_links.proofs.fetching.take_turns.Goals as goal

pub loop-turn-init : goal.loop-turn-init
loop-turn-init g c = record {
  turned = turned_none _ _ _ c.requires.linked;
  taken = none;
  noted = noted_none _ _ _ _;
}

pub returns-in-Some-clause-turned : goal.returns-in-Some-clause-turned
returns-in-Some-clause-turned g c = turned_both (Some c.in-Some.end) _ _ _ _ _ _ _ _ _ c.loop-turn.invariant.turned
    (turned _ _ (sym c.in-Some.is ∙ c.end_by.ensures) _ _ _ _ _ _ _ _ c.fetch_turn_in-step.ensures.turn
    (turned_reading _ _ _ _ _ _ _ c.requires.reading c.loop-turn.invariant.turned)
    c.loop-turn.invariant.turned.reached)

pub returns-in-Some-clause-taken : goal.returns-in-Some-clause-taken
returns-in-Some-clause-taken g c = to_the_end c.in-Some.end c.loop-turn.turn _ _ _ _
    (omega (arith, c.loop-turn-test.true)) c.loop-turn.invariant.taken (record {
      turn = c.fetch_turn_in-step.result;
      takes = c.fetch_turn_in-step.ensures.turn;
      ends = sym c.in-Some.is ∙ c.end_by.ensures;
    })

fine : {m n : ℕ} → m ≡ n + 0 → m ≡ n
fine e = omega (arith, e)

pub returns-in-Some-clause-noted : goal.returns-in-Some-clause-noted
returns-in-Some-clause-noted g c =
    noted_both _ _ _ _ _ _ _ _ _ _ _ _ c.loop-turn.invariant.noted (fine c.loop-turn.invariant.turned.failures)
    c.fetch_turn_in-step.ensures.reported

pub loop-turn-preserved : goal.loop-turn-preserved
loop-turn-preserved g c = record {
  turned = turned_both None _ _ _ _ _ _ _ _ _ c.loop-turn.invariant.turned
      (turned _ _ (sym c.in_default.is ∙ c.end_by.ensures) _ _ _ _ _ _ _ _ c.fetch_turn_in-step.ensures.turn
      (turned_reading _ _ _ _ _ _ _ c.requires.reading c.loop-turn.invariant.turned)
      c.loop-turn.invariant.turned.reached);
  taken = more c.loop-turn.turn _ _ _ _ c.loop-turn.invariant.taken (record {
    turn = c.fetch_turn_in-step.result;
    takes = c.fetch_turn_in-step.ensures.turn;
    ends = sym c.in_default.is ∙ c.end_by.ensures;
  });
  noted = noted_both _ _ _ _ _ _ _ _ _ _ _ _ c.loop-turn.invariant.noted (fine c.loop-turn.invariant.turned.failures)
      c.fetch_turn_in-step.ensures.reported;
}

pub returns-clause-turned : goal.returns-clause-turned
returns-clause-turned g c = turned_out _ _ _ _ _ _ c.loop-turn.invariant.turned

pub returns-clause-taken : goal.returns-clause-taken
returns-clause-taken g c =
    let all : c.loop-turn.turn ≡ 2 ^ 40 = omega (arith, c.loop-turn-test.false, c.loop-turn.auto.turn-end) in
    for_long _ _ (rw all at c.loop-turn.invariant.taken)
