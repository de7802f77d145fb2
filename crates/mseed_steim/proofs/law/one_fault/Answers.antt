use Rattle.mseed_steim.proofs.Laws.{record_fault_one, fault_denies, denied}
use Rattle.mseed_steim.proofs.law.one_fault.Goals as goal

pub returns-clause-one : goal.returns-clause-one
returns-clause-one c = λ v f g. record_fault_one v f g

pub returns-clause-denies : goal.returns-clause-denies
returns-clause-denies c = λ v f. fault_denies v f

pub returns-clause-excludes : goal.returns-clause-excludes
returns-clause-excludes c = λ v f s fault whole. denied v f s (fault_denies v f whole.0.some fault) whole.0 whole.1
