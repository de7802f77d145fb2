use Rattle.mseed_steim.specs.private.Lanes.{words, ones_two}
use Rattle.mseed_steim.proofs.LaneSums.{four_sums}
use Rattle.mseed_steim.proofs.frame.ones_of.Goals as goal

pub returns : goal.returns
unfolding ones_two
returns c = λ row A B C D l. four_sums _ _ _ _ words _ _ _ _ _ _ _ (c.part-of_a.ensures A row l.first l.rows_are)
    (c.part-of_b.ensures B row l.second l.rows_are) (c.part-of_c.ensures C row l.third l.rows_are)
    (c.part_by-of_d.ensures D row l.fourth l.rows_are) c.plus.ensures c.plus-2.ensures c.plus-3.ensures
