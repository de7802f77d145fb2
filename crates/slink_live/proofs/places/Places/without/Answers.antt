use Rattle.std.proofs.Common.{◌≡◌, ◌∙◌, ◌*◌, ◌%◌, ◌^◌, ℕ, arith, bit_and, subst, sym, w16}
use Rattle.std.specs.Int.{bit_at, bit_not}
use Rattle.std.proofs.lemmas.Nat.Bits.{bit_at-lt, bit_at_and, bit_at_clear_other, bit_at_clear_same}
use Rattle.slink_live.proofs.places.Places.without.Goals as goal

both_bits : (a b j : ℕ) → bit_at (bit_and a b) j ≡ 1 → bit_at a j ≡ 1
both_bits a b j has = omega (arith, has, bit_at_and a b j, bit_at-lt a j)

pub returns-clause-less : goal.returns-clause-less
returns-clause-less c j has = (
  both_bits c.args.self.bits (bit_not w16 (1 * 2 ^ c.args.k % 2 ^ 16)) j has,
  λ same. let none : 0 ≡ 1 = sym (bit_at_clear_same w16 c.args.self.bits c.args.k c.requires)
      ∙ subst (λ i. bit_at (bit_and c.args.self.bits (bit_not w16 (1 * 2 ^ c.args.k % 2 ^ 16))) i ≡ 1) same has in
      omega (arith, none),
)

pub returns-clause-others : goal.returns-clause-others
returns-clause-others c j lt ne has = bit_at_clear_other w16 c.args.self.bits c.args.k c.requires j lt ne ∙ has
