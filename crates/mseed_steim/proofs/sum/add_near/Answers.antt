use Rattle.std.proofs.Common.{◌≡◌, ◌<◌, ◌+◌, ◌%◌, ◌^◌, ◌+ℤ◌, nat_abs, ℤ, arith, rules, w32, to_z, of_z, FitsSigned}
use Rattle.std.proofs.lemmas.Int.{wrapping_add_is, int_wrap_fits}
use Rattle.mseed_steim.proofs.Far.{abs_sum, near_signed}
use Rattle.mseed_steim.proofs.sum.add_near.Goals as goal

wrapped : (a b : ℤ) → FitsSigned w32 a → FitsSigned w32 b → nat_abs a + nat_abs b < 2 ^ 31
    → to_z w32 ((of_z w32 a + of_z w32 b) % 2 ^ 32) ≡ a +ℤ b
wrapped a b f g near = grind (arith, abs_sum, int_wrap_fits, near_signed, wrapping_add_is)

pub returns : goal.returns
returns c = wrapped c.args.last c.args.difference (search rules) (search rules) c.requires
