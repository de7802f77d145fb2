use Rattle.std.proofs.Common.{refl}
use Rattle.mseed_feed.proofs.Dialled.{fetched_over, none_out}
use Rattle.mseed_feed.proofs.commands.fetch.Goals as goal

pub fetch_planned-status-requires : goal.fetch_planned-status-requires
fetch_planned-status-requires g c = none_out _ _ _ _ _ c.in-Ok.ensures.fresh

pub returns-in-Ok : goal.returns-in-Ok
returns-in-Ok g c =
    let e = c.fetch_planned-status.ensures in record {
      planned = rw c.leave.ensures.planned c.reach.ensures.planned;
      fetched = rw c.leave.ensures.came
          (fetched_over _ c.plan_fetch-plan.result c.fetch_planned-status.new.plan _ _ _ _ _ _ _ _ _ _ _ _ _ _ _
          c.plan_fetch-plan.ensures c.in-Ok.ensures.fresh e.end e.out);
    }

pub returns-in-Err : goal.returns-in-Err
returns-in-Err g c = record {
  planned = c.reach.ensures.planned;
  fetched = rw c.in-Err.ensures.refused (c.refuse_memory.ensures.status, refl, c.refuse_memory.ensures.reported);
}
