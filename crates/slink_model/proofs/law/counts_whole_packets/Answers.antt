use Rattle.slink_model.proofs.CountedPackets.{counted_ended, counted_ending, counted_packets}
use Rattle.slink_model.proofs.law.counts_whole_packets.Goals as goal

pub returns-clause-whole : goal.returns-clause-whole
returns-clause-whole c = counted_packets

pub returns-clause-ending : goal.returns-clause-ending
returns-clause-ending c = counted_ending

pub returns-clause-ended : goal.returns-clause-ended
returns-clause-ended c = counted_ended
