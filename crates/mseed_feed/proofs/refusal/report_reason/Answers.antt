use Rattle.mseed_feed.proofs.refusal.report_reason.Goals as goal

pub returns-in-Foreign : goal.returns-in-Foreign
returns-in-Foreign g c = rw c.in-Foreign.is c.report_number.ensures
