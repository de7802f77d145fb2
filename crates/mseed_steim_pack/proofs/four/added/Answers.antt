use Rattle.std.proofs.Common.{refl}
use Rattle.mseed_steim.proofs.LaneSums.{spelled_four}
use Rattle.mseed_steim_pack.proofs.four.added.Goals as goal

pub returns : goal.returns
returns c = rw (spelled_four c.args.a c.fits-a.0, spelled_four c.args.b c.fits-b.0) refl
