use Rattle.std.proofs.Common.{◌∙◌, ◌+◌, ◌<◌, arith, get_or, length, pos, rules, sym}
use Rattle.mseed_steim_pack.proofs.Wrapped.{between_at, between_length, wrapped_bits}
use Rattle.mseed_steim_pack.proofs.pending.NeighboursSteps.at.Goals as goal

pub overflow_add-result : goal.overflow_add-result
overflow_add-result c = search (arith, between_length)

pub offset_bounds-self-index : goal.offset_bounds-self-index
offset_bounds-self-index c = search (arith, between_length)

pub bounds-self-index : goal.bounds-self-index
bounds-self-index c = omega (arith, c.requires, between_length c.args.self.now.samples.now)

pub offset_bounds-self-index-2 : goal.offset_bounds-self-index-2
offset_bounds-self-index-2 c = search (arith, between_length)

pub bounds-self-index-2 : goal.bounds-self-index-2
bounds-self-index-2 c = omega (arith, c.requires, between_length c.args.self.now.samples.now)

pub returns : goal.returns
returns c =
    let xs = c.args.self.now.samples.now in
    let i = c.args.index in
    let inside : i + 1 < length xs = omega (arith, c.requires, between_length xs) in
    let before : i < length xs = omega (arith, inside) in
    wrapped_bits (get_or xs (i + 1) (pos 0)) (get_or xs i (pos 0)) (search rules) (search rules)
    ∙ sym (between_at xs i c.requires)
