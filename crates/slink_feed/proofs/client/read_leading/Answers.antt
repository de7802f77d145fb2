use Rattle.slink_feed.specs.Dialogue.{Packet}
use Rattle.std.proofs.Common.{take, [], refl}
use Rattle.std.proofs.Common.{◌≡◌, ◌∙◌, ap, length}
use Rattle.std.proofs.lemmas.List.{length-take-le}
use Rattle.slink_feed.proofs.Received.{packet_brings, short_packet}
use Rattle.slink_feed.proofs.client.read_leading.Goals as goal

pub read_wanted-requires : goal.read_wanted-requires
read_wanted-requires c =
    let long : length c.in-Some.packet.now ≡ 520 =
    ap length c.in-Some.ensures.cases.same ∙ length-take-le 520 c.args.bytes.now c.in-Some.ensures.cases.enough in
    short_packet c.in-Some.packet.now c.in-Ok.record.now c.in-Ok.number long c.in-Ok.ensures.packet

pub returns-in-Some-read_wanted-clause-brings : goal.returns-in-Some-read_wanted-clause-brings
returns-in-Some-read_wanted-clause-brings c =
    packet_brings c.args.dialogue.now c.read_wanted.new.self _ (take 520 c.args.bytes.now) []
    (Packet c.in-Ok.number c.in-Ok.record.now) _ _ c.requires (
      rw c.in-Some.ensures.cases.same at c.in-Ok.ensures.packet,
      length-take-le 520 c.args.bytes.now c.in-Some.ensures.cases.enough,
    ) c.in-Some-read_wanted.ensures.read refl refl
    refl
