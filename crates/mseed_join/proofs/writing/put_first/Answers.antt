use Rattle.std.proofs.Common.{append_assoc}
use Rattle.mseed_join.proofs.writing.put_first.Goals as goal

pub returns-clause-text : goal.returns-clause-text
returns-clause-text c =
    rw (c.put_why.ensures.text, c.put.ensures.text, c.put_labelled-2.ensures.text, c.put_labelled.ensures.text)
    (simp append_assoc)
