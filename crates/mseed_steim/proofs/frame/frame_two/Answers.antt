use Rattle.std.proofs.Common.{◌<◌, subst}
use Rattle.mseed_steim.specs.private.Lanes.{counts_two}
use Rattle.mseed_steim.proofs.FrameSums.{lanes_come, frame_raised}
use Rattle.mseed_steim.proofs.FrameWords.{least_coarse_two, least_two, turned_a, turned_b, turned_c, turned_d}
use Rattle.mseed_steim.proofs.frame.frame_two.Goals as goal

pub returns : goal.returns
unfolding turned_a turned_b turned_c turned_d least_two least_coarse_two counts_two
returns c = λ from begins.
    let lanes = c.turned_lanes.ensures.lanes from begins in
    let count = c.counted.ensures _ lanes.rows_are in
    let come = lanes_come _ _ _ _ _ _ _ _ _ _ _ _ _ _ _ (c.ones_of-ones.ensures _ _ _ _ _ lanes)
    (c.fine_of-fine.ensures _ _ _ _ _ lanes) (c.coarse_of-coarse.ensures _ _ _ _ _ _ _ lanes)
    c.minus.ensures c.shifted-coarse.ensures c.shifted.ensures c.plus.ensures c.plus-raised.ensures
    c.shifted-2.ensures c.minus-2.ensures in
    record {
      count = count;
      by = λ few.
          frame_raised c.args.frame.now from c.fits-frame _ _ _ come
          (c.tally-least.ensures _ lanes.rows_are) (c.tally-least_coarse.ensures _ lanes.rows_are)
          (subst (λ n. n < 128) count few);
    }
