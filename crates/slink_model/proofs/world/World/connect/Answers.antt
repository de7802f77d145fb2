use Rattle.slink_model.proofs.world.World.connect.Goals as goal

pub returns-clause-running : goal.returns-clause-running
returns-clause-running c = record {
  client = c.connect-line.ensures.reads.is_begun;
  link = c.new.ensures.fits c.args.self.now.feed;
}
