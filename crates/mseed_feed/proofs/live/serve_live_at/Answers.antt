use Rattle.mseed_feed.proofs.live.serve_live_at.Goals as goal

pub returns-in-Ok-clause-served : goal.returns-in-Ok-clause-served
returns-in-Ok-clause-served g c = rw c.hang_up.ensures.came c.serve_live-status.ensures

pub returns-in-Ok-clause-planned : goal.returns-in-Ok-clause-planned
returns-in-Ok-clause-planned g c = rw c.hang_up.ensures.planned (rw c.listen.ensures.planned c.plan_of.ensures)

pub returns-in-Err-Port-clause-served : goal.returns-in-Err-Port-clause-served
returns-in-Err-Port-clause-served g c =
    rw (c.in-Err-Port.ensures.refused, c.in-Err-Port.field-0-is)
    (rw c.in-Err-Port.fault-is at c.report_unlistened.ensures)
