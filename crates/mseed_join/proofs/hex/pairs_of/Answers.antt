use Rattle.std.proofs.Common.{◌≡◌, ◌∷◌, [], length, arith, rules}
use Rattle.mseed_join.proofs.HexPairs.{pair_fits}
use Rattle.mseed_join.proofs.hex.pairs_of.Goals as goal

pub returns : goal.returns
returns c =
    let size : length c.args.values ≡ 8 = search rules in
    let first = pair_fits c.args.values 0 size (omega arith) c.requires in
    let second = pair_fits c.args.values 2 size (omega arith) c.requires in
    let third = pair_fits c.args.values 4 size (omega arith) c.requires in
    let fourth = pair_fits c.args.values 6 size (omega arith) c.requires in
    λ i. first i ∷ second i ∷ third i ∷ fourth i ∷ []
