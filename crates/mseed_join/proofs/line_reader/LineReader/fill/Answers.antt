use Rattle.mseed_join.proofs.LinesAhead.{grows_not}
use Rattle.mseed_join.proofs.line_reader.LineReader.fill.Goals as goal

pub returns-then-self-eq-READS-clause-more : goal.returns-then-self-eq-READS-clause-more
returns-then-self-eq-READS-clause-more g c = grows_not (g.R.Source.read c.args.source.now)
    (g.R.Source.remaining c.args.source.now) c.args.self.now

pub returns-clause-more : goal.returns-clause-more
returns-clause-more g c = rw c.make_room.ensures at c.read.ensures.more
