use Rattle.slink_live.proofs.Own.{each_moment}
use Rattle.slink_live.proofs.law.each_moment_has_a_history.Goals as goal

pub returns : goal.returns
returns c start k before after past served = each_moment start k before after past served
