use Rattle.mseed_repack.proofs.Cuts.{one_first, one_list}
use Rattle.mseed_repack.proofs.stretch_law.one_list_of_stretches.Goals as goal

pub returns-clause-first : goal.returns-clause-first
returns-clause-first c = λ vs s t rest others a b. one_first vs s t rest others a b

pub returns-clause-all : goal.returns-clause-all
returns-clause-all c = λ vs ss ts a b. one_list vs ss ts a b
