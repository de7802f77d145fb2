use Rattle.std.proofs.Common.{drop, refl}
use Rattle.slink_feed.proofs.Received.{short_packet, same_packet}
use Rattle.slink_feed.proofs.client.read_packet.Goals as goal

pub read_packet-requires : goal.read_packet-requires
read_packet-requires c =
    short_packet c.args.bytes.now _ _ c.requires.2 (rw (same_packet c.args.bytes.now c.in-Some.packet.now c.requires.2
    c.in-Some.ensures.cases.same) at c.in-Ok.ensures.packet)

pub unreachable-requires-in-Err : goal.unreachable-requires-in-Err
unreachable-requires-in-Err c =
    c.in-Err.ensures.refused c.requires.0 (drop 8 c.in-Some.packet.now)
    (rw (same_packet c.args.bytes.now c.in-Some.packet.now c.requires.2 c.in-Some.ensures.cases.same)
    (c.requires.1.0, c.requires.1.1, refl))

pub returns-clause-read : goal.returns-clause-read
returns-clause-read c = (
  c.in-Ok.number,
  c.in-Ok.record.now,
  rw (same_packet c.args.bytes.now c.in-Some.packet.now c.requires.2 c.in-Some.ensures.cases.same)
      at c.in-Ok.ensures.packet,
  c.read_packet.ensures.read,
)

pub returns-clause-reported : goal.returns-clause-reported
returns-clause-reported c = c.read_packet.ensures.reported
