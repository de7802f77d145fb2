use Rattle.std.proofs.Common.{rules}
use Rattle.slink_wire.proofs.Packets.{one_packet}
use Rattle.slink_wire.proofs.packet.Packet.read.Goals as goal

pub returns-in-Some-number_of-clause-only : goal.returns-in-Some-number_of-clause-only
returns-in-Some-number_of-clause-only c =
    λ n r h. one_packet c.args.bytes.now c.in-Some-number_of.number n c.in-Some.body.now r (search rules) h
