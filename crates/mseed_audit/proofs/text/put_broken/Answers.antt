use Rattle.std.proofs.Common.{append_assoc}
use Rattle.mseed_audit.proofs.text.put_broken.Goals as goal

pub returns : goal.returns
returns c =
    rw (c.put-2.ensures.text, c.put_why.ensures.text, c.put.ensures.text, c.put_labelled-3.ensures.text)
    (rw (c.put_labelled-2.ensures.text, c.put_labelled.ensures.text) (simp append_assoc))
