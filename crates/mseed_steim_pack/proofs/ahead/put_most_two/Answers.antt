use Rattle.std.proofs.Common.{◌<◌, ◌∙◌, ap, ℕ, ℤ}
use Rattle.std.proofs.Common.{List, map, pos}
use Rattle.std.proofs.lemmas.Simd.{map-map}
use Rattle.mseed_steim_pack.proofs.Halves.{same_again}
use Rattle.mseed_steim_pack.specs.private.Ahead.{most_two, size_of}
use Rattle.mseed_steim_pack.proofs.Sizes.{part_all, stored_map}
use Rattle.mseed_steim_pack.proofs.ahead.put_most_two.Goals as goal

pub sizes_of-sizes-requires : goal.sizes_of-sizes-requires
sizes_of-sizes-requires c =
    let near = part_all (pos 0) (λ z. size_of z < 32768) c.loop-turn.turn c.args.cut.now c.told-cut
    c.loop-turn-test.true c.requires in
    rw (same_again _ near) near

pub loop-turn-preserved : goal.loop-turn-preserved
loop-turn-preserved c =
    let near = part_all (pos 0) (λ z. size_of z < 32768) c.loop-turn.turn c.args.cut.now c.told-cut
    c.loop-turn-test.true c.requires in
    let value = c.most_two.ensures ∙ ap (λ (xs : List ℕ). map most_two xs) c.sizes_of-sizes.ensures.value
    ∙ map-map most_two size_of _ ∙ ap (λ (xs : List ℤ). map (λ z. most_two (size_of z)) xs) (same_again _ near) in
    let so_far = stored_map (pos 0) (λ z. most_two (size_of z)) c.loop-turn.turn c.args.cut.now c.loop-turn.most
    c.most_two.result c.told-cut c.loop-turn.invariant.room c.loop-turn-test.true value c.loop-turn.invariant.done in
    record { room = so_far.0; done = so_far.1 }
