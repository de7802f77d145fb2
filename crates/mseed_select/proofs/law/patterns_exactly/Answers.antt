use Rattle.mseed_select.proofs.Letters.{fields_back, fields_yes, four_back, four_yes}
use Rattle.mseed_select.proofs.law.patterns_exactly.Goals as goal

pub returns-clause-one : goal.returns-clause-one
returns-clause-one c = λ text. (four_yes text, four_back text)

pub returns-clause-all : goal.returns-clause-all
returns-clause-all c = λ text. (fields_yes text, fields_back text)
