use Rattle.mseed_steim_pack.proofs.four.three_ahead.Goals as goal

pub returns-in-Two : goal.returns-in-Two
returns-in-Two c = rw c.in-Two.is c.three_two.ensures
