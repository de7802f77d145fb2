use Rattle.std.proofs.Common.{◌≡◌, ◌<◌, ◌+◌, ◌-◌, length, arith, rules, w32, FitsSigned}
use Rattle.std.proofs.lemmas.Int.{to_z-of_z}
use Rattle.mseed_steim.proofs.Shifts.{room_at}
use Rattle.mseed_steim.proofs.LaneDigits.{next_lane}
use Rattle.mseed_steim.proofs.unpack.spread.Goals as goal

pub loop-lane-preserved : goal.loop-lane-preserved
loop-lane-preserved c =
    let fits : FitsSigned w32 c.digit_by.result = search rules in
    let count = c.args.by.now.count in
    let lane = c.loop-lane.lane in
    let inside : c.args.at + lane < length c.loop-lane.differences =
    omega (arith, c.loop-lane.invariant.long, c.loop-lane-test.true, c.requires.few, c.requires.room) in
    record {
      long = search rules;
      so_far = λ width u.
          let value = λ (less : lane < count).
          let some : 0 < count = omega (arith, less) in
          let place : count - 1 - lane + 1 ≡ count - lane = omega (arith, less) in
          c.digit_by.ensures width (count - 1 - lane) (u.positive some) (room_at width count lane less u.fits)
          (rw place (u.lifts lane less)) (u.fall some) in
          rw to_z-of_z (next_lane c.loop-lane.differences _ c.args.at lane count width c.args.word c.digit_by.result
          inside value (c.loop-lane.invariant.so_far width u));
    }
