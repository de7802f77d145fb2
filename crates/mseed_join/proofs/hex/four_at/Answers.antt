use Rattle.std.proofs.Common.{◌∙◌, ℕ, List, ◌++◌, drop, suc, sym, ap, arith}
use Rattle.mseed_join.specs.private.Reading.{bytes_at}
use Rattle.mseed_join.proofs.HexPairs.{four_read, no_digit, values_small}
use Rattle.mseed_join.proofs.hex.four_at.Goals as goal

pub pairs_of-requires : goal.pairs_of-requires
pairs_of-requires c = values_small c.args.bytes.now c.in-Some.values c.requires c.in-Some.ensures.some

pub returns-in-Some-clause-some : goal.returns-in-Some-clause-some
returns-in-Some-clause-some c n done =
    four_read c.args.bytes.now c.in-Some.values c.requires c.in-Some.ensures.some n done
    ∙ ap (λ (xs : List ℕ). bytes_at n (done ++ xs) (drop 8 c.args.bytes.now)) (sym c.pairs_of.ensures)

pub returns-in-None-clause-none : goal.returns-in-None-clause-none
returns-in-None-clause-none c n done =
    let there = c.in-None.ensures.none in
    no_digit (suc (suc (suc (suc n)))) done c.args.bytes.now there.0 (omega (arith, there.1))
    (omega (arith, there.1, c.requires)) there.2
