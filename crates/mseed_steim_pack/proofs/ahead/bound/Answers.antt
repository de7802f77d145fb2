use Rattle.std.proofs.Common.{◌≡◌, ◌≤◌, ◌+◌, ◌-◌, ◌*◌, ◌∙◌, arith, length, get_or}
use Rattle.mseed_steim_pack.specs.private.Ahead.{IsMost}
use Rattle.mseed_steim_pack.proofs.Sizes.{put_above, put_length, most_later, stored}
use Rattle.mseed_steim_pack.proofs.ahead.bound.Goals as goal

pub loop-turn-preserved : goal.loop-turn-preserved
loop-turn-preserved c =
    let at = 16 * c.loop-turn.turn in
    let held = c.loop-turn.held in
    let lanes = c.most_from-lanes.result in
    let inside : at + 16 ≤ 128 = omega (arith, c.loop-turn-test.true) in
    let room = c.loop-turn.invariant.room in
    let long : length lanes ≡ 16 = omega arith in
    record {
      room = put_length 144 at held lanes room (omega (arith, inside));
      done = stored (λ i x. IsMost c.args.held.now i x) c.loop-turn.turn held lanes room c.loop-turn-test.true long
          c.loop-turn.invariant.done
          (λ i more last. most_later 144 at i (get_or lanes (i - at) 0) held c.args.held.now room more
          c.loop-turn.invariant.rest (c.most_from-lanes.ensures (i - at) (omega (arith, more, last))));
      rest = λ i more. put_above 144 at i held lanes room (omega (arith, inside)) long (omega (arith, more))
          ∙ c.loop-turn.invariant.rest i (omega (arith, more));
    }

pub returns : goal.returns
returns c = λ i h. c.loop-turn.invariant.done i (omega (arith, h, c.loop-turn-test.false))
