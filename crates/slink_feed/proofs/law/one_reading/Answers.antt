use Rattle.slink_feed.proofs.OneReading as one
use Rattle.slink_feed.proofs.law.one_reading.Goals as goal

pub returns : goal.returns
returns c start stream a b m n p q = one.one_reading start stream a b m n p q
