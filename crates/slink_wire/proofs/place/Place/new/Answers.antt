use Rattle.std.proofs.Common.{subst, sym}
use Rattle.slink_wire.specs.Place.{IsField}
use Rattle.slink_wire.proofs.Codes.{fills}
use Rattle.slink_wire.proofs.place.Place.new.Goals as goal

pub invariant_of-result : goal.invariant_of-result
invariant_of-result c = (
  subst (IsField 5) (sym c.fill.ensures)
      (fills 5 c.args.sta.now (c.is_code.ensures.0 c.if-not-is_code.false)),
  subst (IsField 2) (sym c.fill-2.ensures)
      (fills 2 c.args.net.now (c.is_code-else-not-is_code.ensures.0 c.if-not-is_code-2.false)),
)
