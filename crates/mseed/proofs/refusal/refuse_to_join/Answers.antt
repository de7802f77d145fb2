use Rattle.mseed.proofs.refusal.refuse_to_join.Goals as goal

pub returns-in-Line-clause-reported : goal.returns-in-Line-clause-reported
returns-in-Line-clause-reported g c = rw c.in-Line.is c.refuse_line.ensures.reported
