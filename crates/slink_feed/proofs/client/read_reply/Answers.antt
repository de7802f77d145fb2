use Rattle.slink_feed.specs.Dialogue.{Garbage, Reply}
use Rattle.slink_feed.proofs.Received.{reply_whole, whole_brings}
use Rattle.slink_feed.proofs.client.read_reply.Goals as goal
use Rattle.slink_feed.proofs.client.read_reply.Goals.{in-Whole, in-Garbage}

pub returns-clause-brings : goal.returns-clause-brings
returns-clause-brings c = elim c.match-part.branch [
  | in-Whole w ↦ whole_brings c.args.dialogue.now _ _ _ c.clear.new.self.items _ _ _
      (reply_whole _ _ (Reply w.line_of.result.now) c.requires.stage
      (rw w.as_slice.ensures.value at w.line_of.ensures.reply)) w.read_reply-event.ensures.read w.dialogue-is
      w.event-is c.clear.ensures
  | in-Garbage w ↦ whole_brings c.args.dialogue.now _ _ _ c.clear.new.self.items _ _ _
      (reply_whole _ _ Garbage c.requires.stage (rw w.in-Garbage.is at c.requires.part))
      w.read_garbage-event.ensures.read w.dialogue-is w.event-is c.clear.ensures
]
