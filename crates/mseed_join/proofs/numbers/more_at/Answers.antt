use Rattle.std.proofs.Common.{◌≡◌, ◌<◌, ◌-◌, ℕ, List, true, length, get_or, refl, arith, rules}
use Rattle.mseed_join.specs.private.Reading.{is_digit}
use Rattle.mseed_join.proofs.Digits.{passes}
use Rattle.mseed_join.proofs.numbers.more_at.Goals as goal

pub returns-in-None-clause-none : goal.returns-in-None-clause-none
returns-in-None-clause-none g c =
    let rest : List ℕ = c.loop-rest.rest.now in
    let digit : is_digit (get_or rest 0 0) ≡ true = search rules in
    let long : 0 < length rest = omega (arith, c.in-len1-up.len_at_least) in
    rw (← c.loop-rest.invariant)
    (passes (g.N.Spelled.value c.loop-rest.number) (get_or rest 0 0 - 48)
    g.N.Spelled.limit rest rest long digit refl c.in-None.ensures.none refl)
