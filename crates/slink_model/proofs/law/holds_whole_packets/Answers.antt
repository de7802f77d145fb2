use Rattle.slink_model.proofs.CountedHeld.{holds_counted, holds_whole}
use Rattle.slink_model.proofs.law.holds_whole_packets.Goals as goal

pub returns-clause-whole : goal.returns-clause-whole
returns-clause-whole c = holds_whole

pub returns-clause-counted : goal.returns-clause-counted
returns-clause-counted c = holds_counted
