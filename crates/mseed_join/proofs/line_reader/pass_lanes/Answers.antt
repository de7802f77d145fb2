use Rattle.std.proofs.Common.{◌≡◌, ◌+◌, ◌≤◌, ℕ, length, take, arith, subst}
use Rattle.mseed_join.specs.Joined.{HasNoEnd}
use Rattle.mseed_join.proofs.LineEnds.{no_end_farther}
use Rattle.mseed_join.proofs.line_reader.pass_lanes.Goals as goal

pub loop-at-preserved : goal.loop-at-preserved
loop-at-preserved c =
    let within : c.loop-at.at + 32 ≤ length c.args.bytes.now =
    omega (arith, c.loop-at-test.true, c.loop-at.invariant.0) in
    let farther = no_end_farther c.args.bytes.now c.loop-at.at c.place_in_lanes-place.result within
    c.loop-at.invariant.1 c.place_in_lanes-place.ensures in
    let all : c.place_in_lanes-place.result ≡ 32 = omega (arith, farther.0, c.if-place-lt-LANES.false) in
    (within, subst (λ (n : ℕ). HasNoEnd (take (c.loop-at.at + n) c.args.bytes.now)) all farther.1)
