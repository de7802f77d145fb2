use Rattle.slink_model.proofs.Stepping.{serving_on}
use Rattle.slink_model.proofs.world.World.append.Goals as goal

pub returns-clause-running : goal.returns-clause-running
returns-clause-running c = record {
  client = c.requires.running.client;
  link = serving_on c.args.self.now.feed c.push.new.self _ c.push.ensures.fits c.requires.running.link;
}
