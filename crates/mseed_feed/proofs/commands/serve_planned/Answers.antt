use Rattle.std.proofs.Common.{rules}
use Rattle.mseed_feed.proofs.InTurn.{none_out, served_to}
use Rattle.mseed_feed.proofs.commands.serve_planned.Goals as goal

pub serve_planned-status-requires : goal.serve_planned-status-requires
serve_planned-status-requires g c = (search rules, none_out _ _ _ _ c.in-Ok.ensures.fresh)

pub returns-in-Ok-clause-served : goal.returns-in-Ok-clause-served
returns-in-Ok-clause-served g c =
    let e = c.serve_planned-status.ensures in
    rw c.close.ensures.came
    (served_to _ _ _ _ _ _ _ _ _ _ _ _ _ c.in-Ok.ensures.fresh e.accepts e.out e.served e.fine e.reported)

pub returns-in-Ok-clause-planned : goal.returns-in-Ok-clause-planned
returns-in-Ok-clause-planned g c = rw c.close.ensures.planned c.listen_in_turn.ensures.planned

pub returns-in-Err-Port-clause-served : goal.returns-in-Err-Port-clause-served
returns-in-Err-Port-clause-served g c =
    rw (c.in-Err-Port.ensures.refused, c.in-Err-Port.field-0-is)
    (rw c.in-Err-Port.fault-is at c.report_unlistened.ensures)
