use Rattle.slink_feed.proofs.OneTurn.{sent_once}
use Rattle.slink_feed.proofs.connection.one_turn.Goals as goal

pub returns-clause-rounds : goal.returns-clause-rounds
returns-clause-rounds c = λ feed old a b x y. sent_once feed old a b x y
