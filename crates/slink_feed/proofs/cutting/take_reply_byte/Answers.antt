use Rattle.std.proofs.Common.{arith}
use Rattle.slink_feed.proofs.Replies.{lacks_more, whole_reply}
use Rattle.slink_feed.proofs.cutting.take_reply_byte.Goals as goal

pub returns-then-ends-clause-part : goal.returns-then-ends-clause-part
returns-then-ends-clause-part c =
    rw c.push.ensures.items (whole_reply c.args.kept.now.items c.args.byte c.requires
    (rw (← c.as_slice.ensures.value, ← c.ends_reply-ends.ensures) c.if-ends.true))

pub returns-then-len-eq-LONGEST_REPLY-clause-part : goal.returns-then-len-eq-LONGEST_REPLY-clause-part
returns-then-len-eq-LONGEST_REPLY-clause-part c = (
  rw c.push.ensures.items (lacks_more c.args.kept.now.items c.args.byte c.requires.0
      (rw (← c.as_slice.ensures.value, ← c.ends_reply-ends.ensures) c.if-ends.false)),
  omega arith,
)

pub returns-else-len-eq-LONGEST_REPLY-clause-part : goal.returns-else-len-eq-LONGEST_REPLY-clause-part
returns-else-len-eq-LONGEST_REPLY-clause-part c = (
  rw c.push.ensures.items (lacks_more c.args.kept.now.items c.args.byte c.requires.0
      (rw (← c.as_slice.ensures.value, ← c.ends_reply-ends.ensures) c.if-ends.false)),
  omega (arith, c.requires.1, c.push.ensures.len, c.len.ensures.value, c.if-len-eq-LONGEST_REPLY.false),
)
