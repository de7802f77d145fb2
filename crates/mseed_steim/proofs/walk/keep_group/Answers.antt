use Rattle.mseed_steim.proofs.Continuing.{continues_done}
use Rattle.mseed_steim.proofs.walk.keep_group.Goals as goal

pub returns-then-sum-samples : goal.returns-then-sum-samples
returns-then-sum-samples g c = λ more.
    continues_done more (c.loop-i.invariant.walked more) c.if-sum-samples.true
