use Rattle.slink_live.proofs.Producing.{link_sends}
use Rattle.slink_live.proofs.law.a_link_is_sent_slices.Goals as goal

pub returns : goal.returns
returns c start k log past records rest served input = link_sends start k log past records rest served input
