use Rattle.mseed_repack.proofs.Held.{any_held, differences_held, samples_held}
use Rattle.mseed_repack.proofs.law.named_numbers_are_held.Goals as goal

pub returns-clause-samples : goal.returns-clause-samples
returns-clause-samples c = samples_held

pub returns-clause-differences : goal.returns-clause-differences
returns-clause-differences c = differences_held

pub returns-clause-any : goal.returns-clause-any
returns-clause-any c = any_held
