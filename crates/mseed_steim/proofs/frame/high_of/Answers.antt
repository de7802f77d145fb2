use Rattle.mseed_steim.specs.private.Lanes.{words, high_one}
use Rattle.mseed_steim.proofs.LaneSums.{two_sums}
use Rattle.mseed_steim.proofs.frame.high_of.Goals as goal

pub returns : goal.returns
unfolding high_one
returns c = λ b d row A B C D l.
    two_sums _ _ words _ _ _ (c.part_by-of_a.ensures A row l.first l.rows_are) (c.part_by-of_c.ensures C row l.third
    l.rows_are) c.plus.ensures
