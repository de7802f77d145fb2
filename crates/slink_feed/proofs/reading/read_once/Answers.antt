use Rattle.slink_feed.proofs.Attended.{accepts_none}
use Rattle.slink_feed.proofs.reading.read_once.Goals as goal

pub returns-clause-written : goal.returns-clause-written
returns-clause-written g c =
    accepts_none (g.met.S.Duplex.reads_apart c.pull.new.self) c.pull.ensures.beside
    (g.met.S.Duplex.reads_apart c.args.link.now)
