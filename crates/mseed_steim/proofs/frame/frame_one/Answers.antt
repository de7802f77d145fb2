use Rattle.std.proofs.Common.{◌<◌, subst}
use Rattle.mseed_steim.specs.private.Lanes.{counts_one}
use Rattle.mseed_steim.proofs.FrameOne.{flipped, flipped_low, frame_raised_one, lanes_come_one, least_one}
use Rattle.mseed_steim.proofs.frame.frame_one.Goals as goal

pub returns : goal.returns
unfolding flipped flipped_low least_one counts_one
returns c = λ from begins.
    let lanes = c.turned_lanes.ensures.lanes from begins in
    let count = c.counted.ensures _ lanes.rows_are in
    let come = lanes_come_one _ _ _ _ _ _ _ _ _ _ (c.low_of-low.ensures _ _ _ _ _ lanes)
    (c.high_of-high.ensures _ _ _ _ _ _ _ lanes)
    c.shifted.ensures c.plus-raised.ensures c.shifted-2.ensures c.minus.ensures c.shifted-3.ensures in
    record {
      count = count;
      by = λ few.
          frame_raised_one c.args.frame.now from c.fits-frame _ _ come
          (c.tally-least.ensures _ lanes.rows_are) (subst (λ n. n < 128) count few);
    }
