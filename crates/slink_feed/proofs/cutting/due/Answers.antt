use Rattle.slink_feed.proofs.Heads.{due_body}
use Rattle.slink_feed.proofs.cutting.due.Goals as goal

pub returns-in-Some-2-clause-due : goal.returns-in-Some-2-clause-due
returns-in-Some-2-clause-due c = λ more most. due_body c.args.kept.now more c.requires c.if-kept-lt-HEAD.false most
