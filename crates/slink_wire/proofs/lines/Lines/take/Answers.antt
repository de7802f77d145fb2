use Rattle.std.proofs.Common.{◌∙◌, ap, arith, refl}
use Rattle.std.proofs.lemmas.Bool.{both_ways}
use Rattle.slink_wire.specs.Lines.{Held}
use Rattle.slink_wire.proofs.Stepped.{taken_byte, taken_more}
use Rattle.slink_wire.proofs.lines.Lines.take.Goals as goal

pub loop-i-preserved : goal.loop-i-preserved
loop-i-preserved c =
    taken_more _ _ _ _ _ c.loop-i-test.true (c.in-More.ensures.goes_on refl) c.in-More.ensures.leads c.loop-i.invariant

pub returns-in_default : goal.returns-in_default
returns-in_default c = record {
  held = (λ stream h. (taken_byte c.args.self.now c.loop-i.self c.take_byte.new.self c.args.piece.now c.loop-i.i
      c.take_byte.result c.loop-i-test.true c.take_byte.ensures.leads c.loop-i.invariant stream h).0);
  reported = (λ stream h. (taken_byte c.args.self.now c.loop-i.self c.take_byte.new.self c.args.piece.now c.loop-i.i
      c.take_byte.result c.loop-i-test.true c.take_byte.ensures.leads c.loop-i.invariant stream h).1);
  first = (λ stream k h lt. c.loop-i.invariant.quiet stream k h (omega arith));
  whole = (λ e. absurd (c.in_default.not-More e));
  bound = omega arith;
  repeats = (λ e. absurd (both_ways c.self.inside.is_too_long c.if-self.false
      (ap (λ (v : Held). v.is_too_long) c.self.view_is ∙ e)));
}
