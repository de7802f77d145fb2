use Rattle.std.proofs.Common.{◌≡◌, arith, length}
use Rattle.std.proofs.Common.{◌<◌, get_or, rules, pos}
use Rattle.mseed_steim.specs.declared.scheme.Scheme.TheVariants.{One}
use Rattle.mseed_steim_pack.specs.private.Ahead.{most_one}
use Rattle.mseed_steim_pack.proofs.Held.{near_small}
use Rattle.mseed_steim_pack.proofs.Sizes.{part_all, stored_map}
use Rattle.mseed_steim_pack.proofs.ahead.put_most_one.Goals as goal

pub most_one-requires : goal.most_one-requires
most_one-requires g c =
    let told : length c.put_half_sizes.new.sizes ≡ 128 = search rules in
    part_all 0 (λ x. x < 32768) c.loop-turn.turn c.put_half_sizes.new.sizes told c.loop-turn-test.true
    (λ i less. rw (c.put_half_sizes.ensures i less)
    (near_small One (get_or (g.D.Steps.differences c.args.diffs.now) i (pos 0))))

pub returns : goal.returns
returns g c = search (arith)

pub loop-turn-preserved : goal.loop-turn-preserved
loop-turn-preserved g c =
    let told : length c.put_half_sizes.new.sizes ≡ 128 = search rules in
    let so_far = stored_map 0 most_one c.loop-turn.turn c.put_half_sizes.new.sizes c.loop-turn.most c.most_one.result
    told c.loop-turn.invariant.room c.loop-turn-test.true c.most_one.ensures c.loop-turn.invariant.done in
    record { room = so_far.0; done = so_far.1 }
