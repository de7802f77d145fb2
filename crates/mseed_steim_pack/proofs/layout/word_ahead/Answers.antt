use Rattle.std.proofs.Common.{arith, drop}
use Rattle.mseed_steim_pack.proofs.layout.word_ahead.Goals as goal

pub word_one-requires-clause-ahead : goal.word_one-requires-clause-ahead
word_one-requires-clause-ahead g c = rw c.in-One.is at c.requires.ahead

pub word_two-requires-clause-few : goal.word_two-requires-clause-few
word_two-requires-clause-few g c = let most = (c.requires.ahead c.requires.some).0 in omega (arith, most)

pub word_two-requires-clause-eight : goal.word_two-requires-clause-eight
word_two-requires-clause-eight g c = (c.requires.cut c.in-Two.is c.requires.some).0

pub returns-in-One : goal.returns-in-One
returns-in-One g c = rw c.in-One.is c.word_one.ensures

pub returns-in-Two : goal.returns-in-Two
returns-in-Two g c =
    let ds = drop c.args.from (g.P.Pending.differences c.args.pending.now) in
    rw c.in-Two.is (c.word_two.ensures ds (rw c.in-Two.is at c.requires.ahead)
    (c.requires.cut c.in-Two.is c.requires.some))
