use Rattle.std.proofs.Common.{arith, append-nil}
use Rattle.mseed_steim.specs.private.Unpacked.{unpacked}
use Rattle.mseed_steim.proofs.unpack.unpack_five.Goals as goal

pub loop-index-init : goal.loop-index-init
unfolding unpacked
loop-index-init c = grind (arith, append-nil)
