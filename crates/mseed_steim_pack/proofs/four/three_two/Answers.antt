use Rattle.mseed_steim_pack.proofs.four.three_two.Goals as goal

pub returns : goal.returns
returns c = λ ds is. rw c.joined.ensures (c.in_ok-a.ensures ds is)
