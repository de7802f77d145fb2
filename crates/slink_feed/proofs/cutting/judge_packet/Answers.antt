use Rattle.slink_feed.specs.Cutting.{record_begun}
use Rattle.slink_feed.proofs.cutting.judge_packet.Goals as goal

pub returns-in-Some : goal.returns-in-Some
returns-in-Some c = record_begun c.in-Some.field-0 c.requires.begins c.in-Some.ensures.number c.if-bytes-lt-HEAD.false
    c.if-bytes-lt-PACKET.true
