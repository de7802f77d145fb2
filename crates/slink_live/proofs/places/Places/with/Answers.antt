use Rattle.std.proofs.Common.{◌∙◌, sym, w16}
use Rattle.std.proofs.lemmas.Nat.Bits.{bit_at_set_other, bit_at_set_same}
use Rattle.slink_live.proofs.places.Places.with.Goals as goal

pub returns-clause-here : goal.returns-clause-here
returns-clause-here c = bit_at_set_same w16 c.args.self.bits c.args.k c.requires

pub returns-clause-others : goal.returns-clause-others
returns-clause-others c j ne = (
  λ has. sym (bit_at_set_other w16 c.args.self.bits c.args.k c.requires j ne) ∙ has,
  λ has. bit_at_set_other w16 c.args.self.bits c.args.k c.requires j ne ∙ has,
)
