use Rattle.mseed_time.proofs.Naming.{name_unique}
use Rattle.mseed_time.proofs.law.one_name.Goals as goal

pub returns : goal.returns
returns c = λ instant t s u v. name_unique instant u v t s
