use Rattle.mseed_join.proofs.part_sums.put_findings.Goals as goal

pub returns-in-Err-clause-fits : goal.returns-in-Err-clause-fits
returns-in-Err-clause-fits c = rw c.in-Nothing.is (c.in-Err.ensures.fits c.in-Nothing.tail)

pub returns-in-Ok-clause-value : goal.returns-in-Ok-clause-value
returns-in-Ok-clause-value c = rw c.in-Nothing.is (c.in-Ok.ensures.value c.in-Nothing.tail)

pub returns-in-Ok-clause-fits : goal.returns-in-Ok-clause-fits
returns-in-Ok-clause-fits c = rw c.in-Nothing.is (c.in-Ok.ensures.fits c.in-Nothing.tail)
