use Rattle.mseed.proofs.refusal.refuse_to_repack.Goals as goal

pub returns-in-Broken-clause-reported : goal.returns-in-Broken-clause-reported
returns-in-Broken-clause-reported g c = rw c.in-Broken.is c.report_broken.ensures

pub returns-in-Misfit-clause-reported : goal.returns-in-Misfit-clause-reported
returns-in-Misfit-clause-reported g c = rw c.in-Misfit.is c.refuse_unfit.ensures.reported
