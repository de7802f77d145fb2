use Rattle.std.proofs.Common.{◌∙◌, arith, sym}
use Rattle.std.proofs.lemmas.Bool.{false≢true, true_from_ne_false}
use Rattle.std.proofs.lemmas.Int.{ints}
use Rattle.mseed_repack.proofs.outline.is_near.Goals as goal

pub returns-then-difference-geminus536870912 : goal.returns-then-difference-geminus536870912
returns-then-difference-geminus536870912 c =
    let low = c.if-difference-geminus536870912.true in (
      λ high. (
        omega (arith, ints, low, c.from.ensures, c.from-2.ensures),
        omega (arith, ints, high, c.from.ensures, c.from-2.ensures),
      ),
      λ near. true_from_ne_false _ (λ high. omega (arith, ints, high, near.1, c.from.ensures, c.from-2.ensures)),
    )

pub returns-else-difference-geminus536870912 : goal.returns-else-difference-geminus536870912
returns-else-difference-geminus536870912 c =
    let low = c.if-difference-geminus536870912.false in (
      λ yes. absurd (false≢true (sym low ∙ yes)),
      λ near. absurd (omega (arith, ints, low, near.0, c.from.ensures, c.from-2.ensures)),
    )
