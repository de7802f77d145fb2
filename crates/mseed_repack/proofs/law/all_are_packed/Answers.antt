use Rattle.mseed_repack.proofs.Everything.{all_repacked, all_restretched}
use Rattle.mseed_repack.proofs.law.all_are_packed.Goals as goal

pub returns-clause-whole : goal.returns-clause-whole
returns-clause-whole c = λ o result read old new first last is. all_repacked o result read old new first last is

pub returns-clause-stretches : goal.returns-clause-stretches
returns-clause-stretches c =
    λ o leave result read old new first last is. all_restretched o leave result read old new first last is
