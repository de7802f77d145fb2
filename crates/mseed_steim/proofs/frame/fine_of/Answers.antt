use Rattle.mseed_steim.specs.private.Lanes.{words, fine_two}
use Rattle.mseed_steim.proofs.LaneSums.{two_sums, more_sums}
use Rattle.mseed_steim.proofs.frame.fine_of.Goals as goal

pub returns : goal.returns
unfolding fine_two
returns c = λ row A B C D l.
    more_sums _ _ words _ _ _
    (more_sums _ _ words _ _ _
    (more_sums _ _ words _ _ _
    (two_sums _ _ words _ _ _ (c.part_by-of_a.ensures A row l.first l.rows_are) (c.part-of_b.ensures B row l.second
    l.rows_are) c.plus.ensures)
    (c.part-of_c.ensures C row l.third l.rows_are) c.plus-2.ensures)
    (c.part_by-top_c.ensures C row l.third l.rows_are) c.plus-3.ensures)
    (c.part-of_d.ensures D row l.fourth l.rows_are) c.plus-4.ensures
