use Rattle.mseed_steim.specs.declared.scheme.Scheme.TheVariants.{One, Two}
use Rattle.mseed_steim.proofs.FrameUnpacked.{told_by}
use Rattle.mseed_steim.proofs.frame.frame_lanes.Goals as goal

pub returns-in-One : goal.returns-in-One
returns-in-One c = rw c.in-One.is (λ p k from begins e.
    told_by One p c.args.frame.now c.args.begin k from _ begins e c.fits-frame (c.frame_one.ensures from begins))

pub returns-in-Two : goal.returns-in-Two
returns-in-Two c = rw c.in-Two.is (λ p k from begins e.
    told_by Two p c.args.frame.now c.args.begin k from _ begins e c.fits-frame (c.frame_two.ensures from begins))
