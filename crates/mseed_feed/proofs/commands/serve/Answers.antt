use Rattle.mseed_feed.proofs.Served.{read_from_start, refused, served}
use Rattle.mseed_feed.proofs.commands.serve.Goals as goal

pub returns-in-Ok : goal.returns-in-Ok
returns-in-Ok g c = (
  g.R.Source.read c.plan_serve-planned.new.input,
  read_from_start _ _ _ _ _ _ c.requires.unread c.plan_serve-planned.ensures.reads,
  served _ _ _ _ _ _ _ _ _ _ c.in-Ok.ensures.planned c.serve_planned.ensures.planned c.serve_planned.ensures.served,
)

pub returns-in-Err : goal.returns-in-Err
returns-in-Err g c = (
  g.R.Source.read c.plan_serve-planned.new.input,
  read_from_start _ _ _ _ _ _ c.requires.unread c.plan_serve-planned.ensures.reads,
  refused _ _ _ _ _ _ _ c.in-Err.ensures.planned,
)
