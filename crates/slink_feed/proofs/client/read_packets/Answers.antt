use Rattle.slink_feed.specs.Dialogue.{End, Garbage, Packet}
use Rattle.slink_feed.proofs.Received.{packet_brings}
use Rattle.slink_feed.proofs.client.read_packets.Goals as goal
use Rattle.slink_feed.proofs.client.read_packets.Goals.{in-Whole, in-End, in-Garbage}

pub returns-clause-brings : goal.returns-clause-brings
returns-clause-brings c = elim c.match-part.branch [
  | in-Whole w ↦
      let long = rw w.in-Whole.is at c.requires.part in
      let packet = w.read_packet-event.ensures.read in
      packet_brings c.args.dialogue.now _ _ _ c.clear.new.self.items (Packet packet.0 packet.1) _ _ c.requires.stage
      (rw w.as_slice.ensures.value at packet.2, long.2) packet.3 w.dialogue-is w.event-is c.clear.ensures
  | in-End w ↦ packet_brings c.args.dialogue.now _ _ _ c.clear.new.self.items End _ _ c.requires.stage
      (rw w.in-End.is at c.requires.part) w.end-event.ensures.read w.dialogue-is w.event-is c.clear.ensures
  | in-Garbage w ↦ packet_brings c.args.dialogue.now _ _ _ c.clear.new.self.items Garbage _ _ c.requires.stage
      (rw w.in-Garbage.is at c.requires.part) (rw c.requires.stage at w.read_garbage-event.ensures.read)
      w.dialogue-is w.event-is c.clear.ensures
]
