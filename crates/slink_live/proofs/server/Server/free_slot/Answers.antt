use Rattle.std.proofs.Common.{◌≢◌, ◌∙◌, None, arith, below_more, get_or, not, sym}
use Rattle.std.proofs.Math.Bool.{and-false}
use Rattle.slink_live.proofs.Reported.{all_taken}
use Rattle.slink_live.proofs.Steps.{none_at, taken_at}
use Rattle.slink_live.proofs.server.Server.free_slot.Goals as goal

pub returns-then-not-is_taken-clause-some : goal.returns-then-not-is_taken-clause-some
returns-then-not-is_taken-clause-some c = rw (← c.self.view_is) (record {
  within = omega (arith, c.loop-slot-test.true, c.len-slot-end.ensures);
  free = none_at _ (sym c.is_taken.ensures ∙ c.if-not-is_taken.true);
  first = rw (← c.self.view_is) at c.loop-slot.invariant.taken;
})

pub loop-slot-preserved : goal.loop-slot-preserved
loop-slot-preserved c = record {
  taken = below_more (λ j. get_or c.args.self.now.links j None ≢ None) c.loop-slot.slot c.loop-slot.invariant.taken
      (rw (← c.self.view_is) (taken_at _ (sym c.is_taken.ensures ∙ c.if-not-is_taken.false)));
}

pub returns-clause-none : goal.returns-clause-none
returns-clause-none c = rw (all_taken c.args.self.now.links c.loop-slot.slot
    (rw (← c.self.view_is) (omega (arith, c.loop-slot-test.false, c.len-slot-end.ensures)))
    c.loop-slot.invariant.taken) (and-false (not c.args.self.now.has_ended))
