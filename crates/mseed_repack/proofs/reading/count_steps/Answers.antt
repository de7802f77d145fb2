use Rattle.std.proofs.Common.{arith}
use Rattle.mseed_repack.proofs.ReadChannels.{steps_next}
use Rattle.mseed_repack.proofs.reading.count_steps.Goals as goal

pub loop-view-preserved : goal.loop-view-preserved
loop-view-preserved c =
    let next = steps_next _ _ _ c.loop-view-test.true c.view-item.is in
    let inv = c.loop-view.invariant in (
      omega (arith, next, inv.0, c.step_count-count.ensures.value),
      omega (arith, inv.1, c.step_count-count.ensures.bound),
    )
