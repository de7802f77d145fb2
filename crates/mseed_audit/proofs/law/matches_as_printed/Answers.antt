use Rattle.std.proofs.Common.{append_assoc}
use Rattle.mseed_audit.proofs.PrintedCodes.{pattern_back, pattern_printed}
use Rattle.mseed_audit.proofs.law.matches_as_printed.Goals as goal

pub returns-clause-codes : goal.returns-clause-codes
returns-clause-codes c = λ key. simp append_assoc

pub returns-clause-exactly : goal.returns-clause-exactly
returns-clause-exactly c = λ pattern key e. (pattern_printed pattern key e, pattern_back pattern key)
