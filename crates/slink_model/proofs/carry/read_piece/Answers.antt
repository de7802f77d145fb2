use Rattle.slink_model.proofs.Reading.{BytesRead, nothing_read, reads_more, still_keeps}
use Rattle.slink_model.proofs.carry.read_piece.Goals as goal

was_read : (c : goal.After-take)
    → BytesRead c.args.client.now c.args.bytes.now c.take.result.0 c.take.new.self c.take.result.1
was_read c = record {
  brings = c.take.ensures.brings;
  all = c.take.ensures.whole;
  unlinked = c.take.ensures.unlinked;
  ended = c.take.ensures.ended;
}

pub returns-clause-reads : goal.returns-clause-reads
returns-clause-reads c first_sent held start to_server rest last more =
    reads_more first_sent held start to_server _ _ c.args.bytes.now rest _ _ last (was_read c) more

pub returns-clause-none : goal.returns-clause-none
returns-clause-none c none = nothing_read _ _ _ _ _ c.requires.some c.requires.keeps (was_read c) none

pub returns-clause-keeps : goal.returns-clause-keeps
returns-clause-keeps c = still_keeps _ _ _ _ _ c.requires.keeps (was_read c)
