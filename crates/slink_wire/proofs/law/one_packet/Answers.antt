use Rattle.slink_wire.proofs.Packets.{one_packet}
use Rattle.slink_wire.proofs.law.one_packet.Goals as goal

pub returns-clause-one : goal.returns-clause-one
returns-clause-one c = one_packet
