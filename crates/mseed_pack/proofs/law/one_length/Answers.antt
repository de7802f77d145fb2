use Rattle.mseed_pack.proofs.Parted.{same_length}
use Rattle.mseed_pack.proofs.law.one_length.Goals as goal

pub returns : goal.returns
returns c = same_length
