use Rattle.slink_live.proofs.Apart.{sent_alike, was_lost}
use Rattle.slink_live.proofs.law.other_places_change_nothing.Goals as goal

pub returns-clause-due : goal.returns-clause-due
returns-clause-due c old new s k long same = sent_alike old new s long (λ streams. same) k

pub returns-clause-lost : goal.returns-clause-lost
returns-clause-lost c old new s same lost = was_lost old new s (λ streams. same) lost
