use Rattle.std.proofs.Common.{arith}
use Rattle.slink_live.proofs.Due.{gives_end}
use Rattle.slink_live.proofs.Turning.{gives_asks, turn_before, turn_then}
use Rattle.slink_live.proofs.link.Link.ask.Goals as goal

pub returns-then-ask_at-clause-yes : goal.returns-then-ask_at-clause-yes
returns-then-ask_at-clause-yes c =
    let gives = rw (c.loop-k.invariant.same, ← c.self.view_is) at c.if-ask_at.ensures.yes in
    rw (← c.self.view_is) (gives_asks _ _ _ c.loop-k.k gives (turn_then _ _ _ c.loop-k.k c.loop-k.auto.k
    (omega (arith, c.loop-k-test.true, c.len-k-end.ensures.value)) (rw (← c.self.view_is) at c.loop-k.invariant.waits)
    gives.sends))

pub returns-then-ask_at-2-clause-yes : goal.returns-then-ask_at-2-clause-yes
returns-then-ask_at-2-clause-yes c =
    let gives = rw (c.loop-k-2.invariant.same, ← c.self.view_is) at c.if-ask_at-2.ensures.yes in
    rw (← c.self.view_is) (gives_asks _ _ _ c.loop-k-2.k gives (turn_before _ _ _ c.loop-k-2.k
    (omega (arith, c.loop-k-2-test.true, c.min-k-end.ensures))
    (omega (arith, c.loop-k-2-test.true, c.min-k-end.ensures, c.len.ensures.value))
    (rw (← c.self.view_is) at c.loop-k-2.invariant.beyond) (rw (← c.self.view_is) at c.loop-k-2.invariant.waits)
    gives.sends))

pub returns-then-ask_at-clause-ends : goal.returns-then-ask_at-clause-ends
returns-then-ask_at-clause-ends c streams none =
    gives_end _ c.loop-k.k _ _ (rw c.loop-k.invariant.same at c.if-ask_at.ensures.yes)
    (none c.loop-k.k (omega (arith, c.loop-k-test.true, c.len-k-end.ensures.value)))

pub returns-then-ask_at-2-clause-ends : goal.returns-then-ask_at-2-clause-ends
returns-then-ask_at-2-clause-ends c streams none =
    gives_end _ c.loop-k-2.k _ _ (rw c.loop-k-2.invariant.same at c.if-ask_at-2.ensures.yes)
    (none c.loop-k-2.k (omega (arith, c.loop-k-2-test.true, c.min-k-end.ensures, c.len.ensures.value)))
