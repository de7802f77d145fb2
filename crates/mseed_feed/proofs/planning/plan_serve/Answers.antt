use Rattle.std.proofs.Common.{Ok, Err, refl}
use Rattle.mseed_feed.proofs.planning.plan_serve.Goals as goal

pub returns-in-Ok-clause-planned : goal.returns-in-Ok-clause-planned
returns-in-Ok-clause-planned g c = record {
  outcome = Ok c.in-Ok.feed;
  filling = c.in-Ok.ensures.filled;
  only = c.one_filling.ensures c.args.serving.now (g.R.Source.read c.fill.new.input) (Ok c.in-Ok.feed)
      c.in-Ok.ensures.filled;
  planned = (
    record {
      port = refl;
      address = refl;
      connections = refl;
      timeout = refl;
      feed_is = refl;
    },
    c.report_kept.ensures,
  );
}

pub returns-in-Err-clause-planned : goal.returns-in-Err-clause-planned
returns-in-Err-clause-planned g c = record {
  outcome = Err c.in-Err.fault;
  filling = c.in-Err.ensures.filled;
  only = c.one_filling.ensures c.args.serving.now (g.R.Source.read c.fill.new.input) (Err c.in-Err.fault)
      c.in-Err.ensures.filled;
  planned = (refl, c.report_filling.ensures);
}
