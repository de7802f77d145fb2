use Rattle.std.proofs.Common.{append_assoc}
use Rattle.mseed_repack.proofs.refusing.put_finding.Goals as goal

pub returns : goal.returns
returns c = simp (
  c.put-2.ensures.text,
  c.put_why.ensures.text,
  c.put.ensures.text,
  c.put_labelled-2.ensures.text,
  c.put_labelled.ensures.text,
  append_assoc,
)
