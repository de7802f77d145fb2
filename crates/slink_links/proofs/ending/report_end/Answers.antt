use Rattle.slink_links.proofs.ending.report_end.Goals as goal

pub returns-in-WriteFailed : goal.returns-in-WriteFailed
returns-in-WriteFailed g c = rw c.in-WriteFailed.is c.report.ensures
