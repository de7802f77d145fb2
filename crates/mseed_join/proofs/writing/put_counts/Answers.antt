use Rattle.std.proofs.Common.{append_assoc}
use Rattle.mseed_join.proofs.writing.put_counts.Goals as goal

pub returns-clause-text : goal.returns-clause-text
returns-clause-text c =
    simp (c.put_labelled-2.ensures.text, c.put_labelled.ensures.text, c.put_key.ensures.text, append_assoc)
