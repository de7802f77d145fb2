use Rattle.std.proofs.Common.{refl}
use Rattle.mseed_steim_pack.proofs.four.joined.Goals as goal

pub returns : goal.returns
returns c = rw c.sums_of-words.ensures refl
