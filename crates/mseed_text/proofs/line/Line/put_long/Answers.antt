use Rattle.mseed_text.proofs.Decimals.{put_eight}
use Rattle.mseed_text.proofs.line.Line.put_long.Goals as goal

pub returns-clause-text : goal.returns-clause-text
returns-clause-text c =
    put_eight c.args.count c.args.self.now c.put_twelve_at_most.new.self c.put_last_eight.new.self
    c.requires.many c.ranges.count.fits c.put_twelve_at_most.ensures.text c.put_last_eight.ensures.text
