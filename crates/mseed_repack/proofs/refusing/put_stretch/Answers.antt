use Rattle.std.proofs.Common.{append_assoc}
use Rattle.mseed_repack.proofs.refusing.put_stretch.Goals as goal

pub returns-in-Some-clause-text : goal.returns-in-Some-clause-text
returns-in-Some-clause-text c = simp (c.in-Some.is, c.put_labelled.ensures.text, append_assoc)
