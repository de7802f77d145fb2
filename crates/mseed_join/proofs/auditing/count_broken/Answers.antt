use Rattle.std.proofs.Common.{arith}
use Rattle.mseed_join.proofs.Channels.{count_more}
use Rattle.mseed_join.proofs.auditing.count_broken.Goals as goal
use Rattle.mseed_join.proofs.auditing.count_broken.Goals.{in-Counted, in_default}

pub loop-channel-preserved : goal.loop-channel-preserved
loop-channel-preserved c =
    let more = count_more c.args.channels.now c.loop-channel.channel-index c.loop-channel-item.result
    c.loop-channel-test.true c.loop-channel-item.is in
    elim c.match-channel.branch [
      | in-Counted w ↦ grind (arith, more, w, c.loop-channel.invariant)
      | in_default w ↦ grind (arith, more, w, c.loop-channel.invariant)
    ]
