use Rattle.mseed_steim.proofs.frame.moves_of.Goals as goal

pub returns-in-One : goal.returns-in-One
returns-in-One c = rw c.in-One.is c.run_of.ensures

pub returns-in-Two : goal.returns-in-Two
returns-in-Two c = rw c.in-Two.is c.run_of-in-Two.ensures
