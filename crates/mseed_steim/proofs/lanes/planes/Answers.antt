use Rattle.std.proofs.Common.{refl, arith}
use Rattle.mseed_steim.specs.private.Lanes.{words}
use Rattle.mseed_steim.proofs.LaneSums.{spelled}
use Rattle.mseed_steim.proofs.lanes.planes.Goals as goal

pub returns : goal.returns
unfolding words
returns c = rw (spelled c.args.frame.now (omega arith)) (record {
  first = refl;
  second = refl;
  third = refl;
  fourth =
      refl;
})
