use Rattle.slink_live.proofs.Own.{own_history}
use Rattle.slink_live.proofs.law.no_other_link_matters.Goals as goal

pub returns : goal.returns
returns c start k log past served = own_history start k log past served
