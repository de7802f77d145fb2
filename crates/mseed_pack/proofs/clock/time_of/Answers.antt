use Rattle.std.proofs.Common.{◌≡◌, ℤ, subst, sym, arith}
use Rattle.std.proofs.lemmas.Bool.{false≢true}
use Rattle.std.proofs.lemmas.Int.{ints}
use Rattle.mseed_time.specs.Naming.{IsOutside}
use Rattle.mseed_pack.proofs.clock.time_of.Goals as goal

pub returns-in-Ok-of_micros-clause-none : goal.returns-in-Ok-of_micros-clause-none
returns-in-Ok-of_micros-clause-none c =
    let same : c.in-Some.micros ≡ c.args.instant = omega (arith, ints, c.in-Some.ensures.value, c.in-Ok.ensures.1) in (
      λ e. cc,
      λ out. absurd (false≢true
          (c.in-Ok-of_micros.ensures.out_of_range.1 (subst (λ (t : ℤ). IsOutside t) (sym same) out))),
    )
