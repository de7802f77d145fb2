use Rattle.std.proofs.Common.{◌∙◌, arith, below_more, sym}
use Rattle.slink_live.proofs.Steps.{all_none, none_at, taken_at}
use Rattle.slink_live.proofs.server.Server.is_empty.Goals as goal

pub loop-slot-preserved : goal.loop-slot-preserved
loop-slot-preserved c = below_more _ _ c.loop-slot.invariant
    (rw (← c.self.view_is) (none_at _ (sym c.is_taken.ensures ∙ c.if-is_taken.false)))

pub returns-then-is_taken-clause-no : goal.returns-then-is_taken-clause-no
returns-then-is_taken-clause-no c = rw (← c.self.view_is)
    (λ none. taken_at _ (sym c.is_taken.ensures ∙ c.if-is_taken.true) (none c.loop-slot.slot))

pub returns-clause-yes : goal.returns-clause-yes
returns-clause-yes c = all_none _ c.loop-slot.slot
    (rw (← c.self.view_is) (omega (arith, c.loop-slot-test.false, c.len-slot-end.ensures))) c.loop-slot.invariant
