use Rattle.mseed_steim.proofs.LaneSums.{fold_sum_0}
use Rattle.mseed_steim_pack.proofs.layout.word_two.Goals as goal

pub returns : goal.returns
returns c = λ ds ahead cut. rw (fold_sum_0 c.parts_two-code.result.0) (c.parts_two-code.ensures ds ahead cut)
