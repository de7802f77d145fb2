use Rattle.std.proofs.Common.{arith, rules}
use Rattle.mseed_text.proofs.Decimals.{put_eight}
use Rattle.mseed_text.proofs.line.Line.put_twelve_at_most.Goals as goal

pub returns-else-count-lt100000000-clause-text : goal.returns-else-count-lt100000000-clause-text
returns-else-count-lt100000000-clause-text c =
    put_eight c.args.count c.args.self.now c.put_four_at_most.new.self c.put_last_eight.new.self
    (search rules) (omega (arith, c.requires.few)) c.put_four_at_most.ensures.text c.put_last_eight.ensures.text
