use Rattle.std.proofs.Common.{arith, rules}
use Rattle.mseed_text.proofs.Decimals.{put_four}
use Rattle.mseed_text.proofs.line.Line.put_eight_at_most.Goals as goal

pub returns-else-count-lt10000-clause-text : goal.returns-else-count-lt10000-clause-text
returns-else-count-lt10000-clause-text c =
    put_four c.args.count c.args.self.now c.put_four_at_most-else-count-lt10000.new.self c.put_last_four.new.self
    (search rules) (omega (arith, c.requires.few)) c.put_four_at_most-else-count-lt10000.ensures.text
    c.put_last_four.ensures.text
