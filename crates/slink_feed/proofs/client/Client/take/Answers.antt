use Rattle.std.proofs.Common.{sym, ◌∙◌}
use Rattle.slink_feed.proofs.Received.{brings_seen, reads_by}
use Rattle.slink_feed.proofs.client.Client.take.Goals as goal

pub take_packet-used-requires : goal.take_packet-used-requires
take_packet-used-requires c = rw (sym c.stage.ensures ∙ c.in-Packets.is) at c.self.invariant

pub returns-in-Station-clause-brings : goal.returns-in-Station-clause-brings
returns-in-Station-clause-brings c =
    λ linked. brings_seen _ _ _ _ c.args.self.now _ _ c.self.view_is c.take_reply-used.ensures.kept
    c.read_reply.ensures.brings

pub returns-in-Station-clause-reads : goal.returns-in-Station-clause-reads
returns-in-Station-clause-reads c = reads_by c.args.self.now _ _ _ (returns-in-Station-clause-brings c)

pub returns-in-Packets-clause-brings : goal.returns-in-Packets-clause-brings
returns-in-Packets-clause-brings c =
    λ linked. brings_seen _ _ _ _ c.args.self.now _ _ c.self.view_is c.take_packet-used.ensures.kept
    c.read_packets.ensures.brings

pub returns-in-Packets-clause-reads : goal.returns-in-Packets-clause-reads
returns-in-Packets-clause-reads c = reads_by c.args.self.now _ _ _ (returns-in-Packets-clause-brings c)
