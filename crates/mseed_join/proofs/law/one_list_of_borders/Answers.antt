use Rattle.mseed_join.proofs.Bordering.{found_one, found_some}
use Rattle.mseed_join.proofs.law.one_list_of_borders.Goals as goal

pub returns-clause-one : goal.returns-clause-one
returns-clause-one c = found_one

pub returns-clause-some : goal.returns-clause-some
returns-clause-some c = found_some
