use Rattle.slink_feed.proofs.Connected.{before_sent}
use Rattle.slink_feed.proofs.connection.turns_send_slices.Goals as goal

pub returns-clause-before : goal.returns-clause-before
returns-clause-before c = λ feed old new is sends. before_sent feed old new is sends
