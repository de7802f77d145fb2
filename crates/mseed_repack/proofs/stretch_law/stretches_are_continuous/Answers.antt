use Rattle.mseed_repack.proofs.Joining.{continuous}
use Rattle.mseed_repack.proofs.stretch_law.stretches_are_continuous.Goals as goal

pub returns : goal.returns
returns c = λ s each is. continuous s each is
