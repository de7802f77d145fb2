use Rattle.slink_live.proofs.Fairness.{asked_turns, between}
use Rattle.slink_live.proofs.Growing.{called_between, turns_joined, turns_still}
use Rattle.slink_live.proofs.law.in_turns.Goals as goal

pub returns-clause-turns : goal.returns-clause-turns
returns-clause-turns c feed s last ring turn way all asked = asked_turns asked

pub returns-clause-between : goal.returns-clause-between
returns-clause-between c feed s t ring turn k j mid turns again ne due = between j turns again ne due

pub returns-clause-still : goal.returns-clause-still
returns-clause-still c feed s t ring turn ks turns = turns_still turns

pub returns-clause-joined : goal.returns-clause-joined
returns-clause-joined c old now last s t u ring turn next ks more before further = turns_joined before further

pub returns-clause-called : goal.returns-clause-called
returns-clause-called c feed last s t k j turn mid due ne turns streams again =
    called_between feed s k j mid last t turn due ne turns streams again
