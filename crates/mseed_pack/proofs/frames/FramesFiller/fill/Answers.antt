use Rattle.mseed_pack.proofs.frames.FramesFiller.fill.Goals as goal

pub returns-in-Steim1-clause-filled : goal.returns-in-Steim1-clause-filled
returns-in-Steim1-clause-filled g c = λ xs stands left.
    rw c.in-Steim1.is (c.fill_frames.ensures.filled xs (rw c.in-Steim1.is at stands) left)

pub returns-in-Steim2-clause-filled : goal.returns-in-Steim2-clause-filled
returns-in-Steim2-clause-filled g c = λ xs stands left.
    rw c.in-Steim2.is (c.fill_frames-in-Steim2.ensures.filled xs (rw c.in-Steim2.is at stands) left)
